-- The posted rows, as a store is filled with them. Assumes nothing.
use Rattle.std.proofs.Common.{◌≡◌, ℕ, ◌<◌, ◌≤◌, false, ◌&&◌, ◌||◌, eqb, List, length, get_or, refl, ap, ◌∙◌, arith}
use Rattle.std.proofs.lemmas.List.{get_or_default}
use Rattle.std.proofs.lemmas.Bool.{and_left, le-ltb, lt-ltb}
use Rattle.std.proofs.lemmas.Bool.Decides.{nat_tests}
use Rattle.tickets.specs.declared.ticket.Ticket.{Ticket}
use Rattle.spreads.specs.Spreads.{blank}
use Rattle.stores.specs.Sets.{Rows}
use Rattle.runs.specs.Tables.{posted}
use Rattle.runs.specs.Supports.{setting}
use Rattle.planner.specs.Sets.{union, range_of}

module _ (ts : List Ticket) where
  pub posted_past : (i t : ℕ) → length ts ≤ i → posted (setting ts) i t ≡ false
  posted_past i t l = and_left _ _ (le-ltb i (length ts) l)

  -- a row is filled from the first to the last start of its ticket
  pub posted_row :
      (N K : Rows) (row : ℕ) (x : Ticket) → row < length ts → x ≡ get_or ts row x → K ≡ union N (range_of row x.first x.last) →
      (i t : ℕ) → K i t ≡ (N i t || (eqb i row && posted (setting ts) row t))
  posted_row N K row x l at k i t =
      let is : K i t ≡ union N (range_of row x.first x.last) i t = ap (λ (T : Rows). T i t) k in
      let same : x ≡ get_or ts row blank = at ∙ get_or_default ts row x blank l in
      is ∙ (rw (same, lt-ltb row (length ts) l) refl)

  -- a row that no ticket has is left empty
  pub posted_none : (N : Rows) (row : ℕ) → length ts ≤ row → (i t : ℕ) → N i t ≡ (N i t || (eqb i row && posted (setting ts) row t))
  posted_none N row l i t = rw (posted_past row t l) (grind (arith, nat_tests))
