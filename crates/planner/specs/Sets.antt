-- Sets of starts, row by row. Assumes nothing.
use Rattle.std.specs.Prelude.{◌≡◌, ℕ, true, not, ◌&&◌, ◌||◌, ◌==◌, nat_le}
use Rattle.spreads.specs.Lines.{sum_to}
use Rattle.stores.specs.Sets.{Rows, size_of}

-- what R or G holds
abbrev pub union : Rows → Rows → Rows
union R G i t = R i t || G i t

-- what G holds in one row
abbrev pub only_row : Rows → ℕ → Rows
only_row G row i t = i == row && G i t

-- what R holds in the other rows
abbrev pub without_row : Rows → ℕ → Rows
without_row R row i t = not (i == row) && R i t

-- the starts from `first` to `last` of one row
abbrev pub range_of : ℕ → ℕ → ℕ → Rows
range_of row first last i t = i == row && (nat_le first t && nat_le t last)

-- what left R for R' came to G for G', and nothing else happened to either
pub record Out (R G R' G' : Rows) : Type 0 where
  pub less : (i t : ℕ) → R' i t ≡ true → R i t ≡ true
  pub gone : (i t : ℕ) → G' i t ≡ (G i t || (R i t && not (R' i t)))

-- how many starts R has
unfoldable pub total : Rows → ℕ
total R = sum_to 24 (λ i. size_of (R i))
