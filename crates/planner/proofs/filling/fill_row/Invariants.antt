use Rattle.std.proofs.Common.{◌≡◌}
use Rattle.planner.specs.Sets.{union}
use Rattle.planner.proofs.Walks.{filled}
use Rattle.planner.proofs.filling.fill_row.Given as goal

abbrev pub invariant-loop-start : goal.invariant-loop-start
invariant-loop-start g l = g.S.Store.rows l.store ≡ union (g.S.Store.rows l.initial.store) (filled l.row l.ticket.first l.start)
