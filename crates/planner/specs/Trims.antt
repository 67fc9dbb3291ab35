-- Cutting a table down to the largest self-supporting one. Assumes nothing.
use Rattle.std.specs.Prelude.{◌≡◌, ℕ, ◌<◌, ◌≤◌, Bool, true, false, ◌≢◌, Some, None, Option}
use Rattle.stores.specs.Sets.{Rows, Earliest}
use Rattle.runs.specs.Tables.{Setting, starts, NoneWithin, Narrowed, Largest}
use Rattle.queries.specs.Judging.{Tells}
use Rattle.planner.specs.Sets.{Out}
use Rattle.planner.specs.Cuttings.{Retained}

-- the row of a ticket in R lost the starts that the releases r do not support, and R' is left
abbrev pub RowTrim : Setting → ℕ → (ℕ → ℕ) → ℕ → Rows → Rows → Type 0
RowTrim w U r row = Retained (λ t b. Tells b (w.supports r row t U)) row

-- whether the least start of a row is another than `old`, now that the row is f; nothing, where the row is empty
abbrev pub LeastStart : (ℕ → Bool) → ℕ → Option Bool → Type 0
LeastStart f old (Some false) = Earliest f 0 old
LeastStart f old (Some true) = (v : ℕ) × Earliest f 0 v × (v ≢ old)
LeastStart f old None = (t : ℕ) → f t ≡ false

-- starts went out of R into G, which leaves R' and G': only tickets' rows lost any, and each self-supporting table within R is within R'
pub record Trim (w : Setting) (U : ℕ) (R G R' G' : Rows) : Type 0 where
  pub out : Out R G R' G'
  pub past : (i t : ℕ) → w.tickets ≤ i → R' i t ≡ R i t
  pub narrowed : Narrowed w U R R'

-- what a round over all rows did: no least start moved, and what is left is the largest self-supporting table; or one moved, and there
-- are fewer starts; or a row was left empty, and there is no self-supporting table
abbrev pub RoundDone : Setting → ℕ → Rows → Rows → Option Bool → Type 0
RoundDone w U R R' (Some false) = Largest w U R R'
RoundDone w U R R' (Some true) = starts w R' < starts w R
RoundDone w U R R' None = NoneWithin w U R

-- the largest self-supporting table is left; nothing, where there is none
abbrev pub Settled : Setting → ℕ → Rows → Rows → Option Unit → Type 0
Settled w U R R' (Some _) = Largest w U R R'
Settled w U R R' None = NoneWithin w U R
