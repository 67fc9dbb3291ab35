use Rattle.std.proofs.Common.{◌≡◌}
use Rattle.tickets.specs.Collections.{posted}
use Rattle.spreads.specs.Spreads.{release}
use Rattle.stores.specs.BitRows.{bit_rows}
use Rattle.runs.specs.Supports.{setting}
use Rattle.runs.proofs.Supports.{laws}
use Rattle.planner.proofs.Rounds.{Round}
use Rattle.planner.proofs.cutting.Cutting.trim_round.Given as goal

abbrev pub invariant-loop-row : goal.invariant-loop-row
invariant-loop-row g l =
    let ts = posted l.support.released.collection.now in
    (l.self.store.ghost_name ≡ l.initial.self.store.ghost_name) ×
    Round (setting ts) (laws ts) l.support.ceiling (release l.support.released.releases)
    (g.S.Store.rows l.initial.self.store.now) (bit_rows l.initial.self.gone) (g.S.Store.rows l.self.store.now) (bit_rows l.self.gone) l.row l.moved
