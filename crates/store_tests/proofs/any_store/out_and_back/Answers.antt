use Rattle.std.proofs.Common.{sym, ◌∙◌}
use Rattle.stores.proofs.Moves.{without_absent, with_without}
use Rattle.store_tests.proofs.any_store.out_and_back.Goals as goal

pub returns-then-take_out : goal.returns-then-take_out
returns-then-take_out g c =
    let held = sym c.if-take_out.ensures.was in
    rw (c.put_back.ensures.left, c.take_out.ensures.left) (with_without _ _ _ (g.met.S.Store.bounded _) held)

pub returns-else-take_out : goal.returns-else-take_out
returns-else-take_out g c = c.take_out.ensures.left ∙ without_absent _ _ _ (sym c.if-take_out.ensures.was)
