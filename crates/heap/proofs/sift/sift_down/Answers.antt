use Rattle.std.proofs.lemmas.List.Sorted.{IsPermutation-trans}
use Rattle.heap.proofs.Sifting.{lawful, sinks, sunk}
use Rattle.heap.proofs.sift.sift_down.Goals as goal

pub loop-child-preserved : goal.loop-child-preserved
loop-child-preserved g c =
    let law = lawful g.E.Key.Ord.cmp g.E.Entry.keyed g.met.E.Key.Ord.total in
    let l = c.loop-child in
    let w = c.swap.ensures in (
      IsPermutation-trans _ _ _ l.invariant.0 w.permutation,
      sinks _ law l.slots c.swap.new.self l.at c.in-Some.child w.len
          (λ d. (w.by_index.0 d, w.by_index.1 d, λ m. w.by_index.2 m d)) c.in-Some.ensures l.invariant.1,
    )

pub returns-clause-tree : goal.returns-clause-tree
returns-clause-tree g c = let l = c.loop-child in sunk _ l.slots l.at l.invariant.1 c.in_default.ensures
