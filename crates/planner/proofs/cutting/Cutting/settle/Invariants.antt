use Rattle.std.proofs.Common.{◌≡◌}
use Rattle.tickets.specs.Collections.{posted}
use Rattle.stores.specs.BitRows.{bit_rows}
use Rattle.runs.specs.Tables.{starts}
use Rattle.runs.specs.Supports.{setting}
use Rattle.planner.specs.Trims.{Trim}
use Rattle.planner.proofs.cutting.Cutting.settle.Given as goal

abbrev pub invariant-loop-releases : goal.invariant-loop-releases
invariant-loop-releases g l =
    (l.self.store.ghost_name ≡ l.initial.self.store.ghost_name) ×
    Trim (setting (posted l.collection)) l.ceiling (g.S.Store.rows l.initial.self.store.now) (bit_rows l.initial.self.gone) (g.S.Store.rows l.self.store.now) (bit_rows l.self.gone)

abbrev pub decreases-loop-releases : goal.decreases-loop-releases
decreases-loop-releases g l = starts (setting (posted l.collection)) (g.S.Store.rows l.self.store.now)
