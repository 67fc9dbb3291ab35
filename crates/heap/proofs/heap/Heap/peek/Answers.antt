use Rattle.std.proofs.Common.{sym, refl, ap, ◌∙◌, subst}
use Rattle.std.specs.List.{slice_get}
use Rattle.heap.specs.Waiting.{waiting, Peeked}
use Rattle.heap.proofs.Sifting.{lawful}
use Rattle.heap.proofs.Slots.{looked}
use Rattle.heap.proofs.heap.Heap.peek.Goals as goal

pub returns : goal.returns
returns g c =
    let law = lawful g.E.Key.Ord.cmp g.E.Entry.keyed g.met.E.Key.Ord.total in
    let h = c.args.self.now in
    subst (Peeked _ h)
    (sym (c.copied.ensures ∙ c.first.ensures.value ∙ ap (λ xs. slice_get xs 0) c.waiting.ensures))
    (looked _ law h (waiting h) refl h.tree)
