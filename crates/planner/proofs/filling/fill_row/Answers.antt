use Rattle.std.proofs.Common.{◌≡◌, ◌+◌, ap, ◌∙◌, arith}
use Rattle.stores.specs.Sets.{Rows}
use Rattle.planner.specs.Sets.{union}
use Rattle.planner.proofs.Walks.{filled, filled_more, filled_all}
use Rattle.planner.proofs.filling.fill_row.Goals as goal

pub loop-start-preserved : goal.loop-start-preserved
loop-start-preserved g c =
    filled_more _ _ _ c.args.row c.args.ticket.now.first c.loop-start.start c.requires (omega arith) (omega arith) c.loop-start.invariant c.put_back.ensures.left

-- after the last start
pub returns-2 : goal.returns-2
returns-2 g c =
    let R : Rows = g.S.Store.rows c.args.store.now in
    let last : c.loop-start.start ≡ c.args.ticket.now.last = omega arith in
    filled_more _ _ _ c.args.row c.args.ticket.now.first c.loop-start.start c.requires (omega arith) (omega arith) c.loop-start.invariant c.put_back.ensures.left
    ∙ ap (λ n. union R (filled c.args.row c.args.ticket.now.first (n + 1))) last ∙ filled_all R c.args.row c.args.ticket.now.first c.args.ticket.now.last
