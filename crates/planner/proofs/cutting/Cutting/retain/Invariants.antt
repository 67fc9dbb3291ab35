use Rattle.std.proofs.Common.{◌-◌}
use Rattle.planner.specs.Cuttings.{Cuts}
use Rattle.planner.proofs.Retaining.{Walked}
use Rattle.planner.proofs.cutting.Cutting.retain.Given as goal

abbrev pub invariant-loop-start : goal.invariant-loop-start
invariant-loop-start g l =
    Walked (goal.F-post g l.keep) l.row (g.S.Store.rows l.initial.self.store.now) (g.S.Store.rows l.self.store.now) l.next ×
    Cuts g.S.Store.rows l.initial.self l.self

abbrev pub decreases-loop-start : goal.decreases-loop-start
decreases-loop-start g l = 256 - l.next
