use Rattle.std.specs.List.Sorted.{IsPermutation}
use Rattle.heap.specs.Trees.{below, by_key}
use Rattle.heap.proofs.Sifting.{Rising}
use Rattle.heap.proofs.sift.sift_up.Given as goal

abbrev pub invariant-loop-parent : goal.invariant-loop-parent
invariant-loop-parent g l = IsPermutation l.initial.slots l.slots × Rising (by_key (below g.E.Key.Ord.cmp) g.E.Entry.keyed) l.slots l.at

abbrev pub decreases-loop-parent : goal.decreases-loop-parent
decreases-loop-parent g l = l.at
