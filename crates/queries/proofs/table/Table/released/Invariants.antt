use Rattle.std.proofs.Common.{ℕ, ◌<◌}
use Rattle.stores.specs.Sets.{Earliest}
use Rattle.spreads.specs.Spreads.{release}
use Rattle.queries.proofs.table.Table.released.Given as goal

abbrev pub invariant-loop-row : goal.invariant-loop-row
invariant-loop-row g l = (i : ℕ) → i < l.row → Earliest (g.S.Store.rows l.self.store.now i) 0 (release l.used i)
