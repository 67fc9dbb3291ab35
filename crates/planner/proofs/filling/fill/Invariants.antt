use Rattle.std.proofs.Common.{◌≡◌}
use Rattle.runs.specs.Tables.{posted}
use Rattle.runs.specs.Supports.{setting}
use Rattle.planner.proofs.Walks.{mixed}
use Rattle.planner.proofs.filling.fill.Given as goal

abbrev pub invariant-loop-row : goal.invariant-loop-row
invariant-loop-row g l = g.S.Store.rows l.store ≡ mixed (posted (setting l.tickets)) (g.S.Store.rows l.initial.store) l.row
