-- The longest unbroken ranges of a row. Assumes nothing.
use Rattle.std.specs.Prelude.{◌≡◌, ℕ, ◌+◌, ◌<◌, ◌≤◌, Bool, true, false, List, [], ◌∷◌, length, Some, None, Option, slice_index_or}
use Rattle.stores.specs.Sets.{Rows, Earliest, First}
use Rattle.listing.specs.declared.range.Range.{Range}

-- r is the first longest unbroken range of the row f from `from` on: it begins with the earliest start, every start up to its last one
-- is in the row, and the next one is not
pub record Leads (f : ℕ → Bool) (from : ℕ) (r : Range) : Type 0 where
  pub begins : Earliest f from r.first
  pub rises : r.first ≤ r.last
  pub unbroken : (t : ℕ) → r.first ≤ t → t ≤ r.last → f t ≡ true
  pub ends : f (r.last + 1) ≡ false

-- rs are the longest unbroken ranges of the row f from `from` on, rising: none where no start is left
abbrev pub Ranges : (ℕ → Bool) → ℕ → List Range → Type 0
Ranges f from [] = First f from None
Ranges f from (r ∷ rs) = Leads f from r × Ranges f (r.last + 2) rs

-- the answer is the first of them; nothing, where there is none
abbrev pub NextRange : (ℕ → Bool) → ℕ → Option Range → Type 0
NextRange f from (Some r) = Leads f from r
NextRange f from None = First f from None

-- rss has the ranges of each of the rows 0 to n - 1
pub record TableRanges (R : Rows) (n : ℕ) (rss : List (List Range)) : Type 0 where
  pub places : length rss ≡ n
  pub here : (i : ℕ) → i < n → Ranges (R i) 0 (slice_index_or rss i [])
