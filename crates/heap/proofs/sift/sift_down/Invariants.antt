use Rattle.std.proofs.Common.{◌-◌, length}
use Rattle.std.specs.List.Sorted.{IsPermutation}
use Rattle.heap.specs.Trees.{below, by_key}
use Rattle.heap.proofs.Sifting.{Sinking}
use Rattle.heap.proofs.sift.sift_down.Given as goal

abbrev pub invariant-loop-child : goal.invariant-loop-child
invariant-loop-child g l = IsPermutation l.initial.slots l.slots × Sinking (by_key (below g.E.Key.Ord.cmp) g.E.Entry.keyed) l.slots l.at

abbrev pub decreases-loop-child : goal.decreases-loop-child
decreases-loop-child g l = length l.initial.slots - l.at
