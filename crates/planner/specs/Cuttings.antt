-- What cutting starts out of a store leaves. Assumes nothing.
use Rattle.std.specs.Prelude.{◌≡◌, ℕ, Bool, true, false, ◌≢◌}
use Rattle.stores.specs.Sets.{Rows}
use Rattle.stores.specs.BitRows.{bit_rows}
use Rattle.runs.specs.Tables.{Within}
use Rattle.planner.specs.declared.cutting.Cutting.{Cutting}
use Rattle.planner.specs.Sets.{Out}

-- starts of c's store were cut, which leaves d
pub record Cuts {S : Type 0} (rows : S → Rows) (c d : Cutting S) : Type 0 where
  pub name : d.store.ghost_name ≡ c.store.ghost_name
  pub out : Out (rows c.store.now) (bit_rows c.gone) (rows d.store.now) (bit_rows d.gone)

-- the row of R lost each start that `keep` refused and no other, and R' is left; `keep t b` says that b is an answer to start t
pub record Retained (keep : ℕ → Bool → Type 0) (row : ℕ) (R R' : Rows) : Type 0 where
  pub less : Within R' R
  pub others : (i t : ℕ) → (i ≢ row) → R' i t ≡ R i t
  pub kept : (t : ℕ) → R' row t ≡ true → keep t true
  pub cut : (t : ℕ) → R row t ≡ true → R' row t ≡ false → keep t false
