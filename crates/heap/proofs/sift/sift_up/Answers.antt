use Rattle.std.proofs.lemmas.List.Sorted.{IsPermutation-trans}
use Rattle.heap.proofs.Sifting.{lawful, rises, risen}
use Rattle.heap.proofs.sift.sift_up.Goals as goal

pub loop-parent-preserved : goal.loop-parent-preserved
loop-parent-preserved g c =
    let law = lawful g.E.Key.Ord.cmp g.E.Entry.keyed g.met.E.Key.Ord.total in
    let l = c.loop-parent in
    let w = c.swap.ensures in (
      IsPermutation-trans _ _ _ l.invariant.0 w.permutation,
      rises _ law l.slots c.swap.new.self c.in-Some.parent l.at w.len
          (λ d. (w.by_index.0 d, w.by_index.1 d, λ m. w.by_index.2 m d)) c.in-Some.ensures l.invariant.1,
    )

pub returns-clause-tree : goal.returns-clause-tree
returns-clause-tree g c = let l = c.loop-parent in risen _ l.slots l.at l.invariant.1 c.in_default.ensures
