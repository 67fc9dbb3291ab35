-- What a store means: 24 sets of starts, one a row, and what the calls answer and leave. Assumes nothing.
use Rattle.std.specs.Prelude.{◌≡◌, ℕ, zero, suc, ◌+◌, ◌<◌, ◌≤◌, Bool, true, false, cond, not, ◌&&◌, ◌||◌, Some, None, Option, ◌==◌, nat_lt}

-- the sets, as a test of a row and a start
abbrev pub Rows : Type 0
Rows = ℕ → ℕ → Bool

-- the rows are numbered from 0 to 23, the starts from 0 to 255
abbrev pub inside : ℕ → ℕ → Bool
inside row start = nat_lt row 24 && nat_lt start 256

-- the rows hold nothing out of range
abbrev pub Bounded : Rows → Type 0
Bounded R = (i t : ℕ) → R i t ≡ true → (i < 24) × (t < 256)

-- every row is empty
abbrev pub no_starts : Rows
no_starts i t = false

-- start t of row i is the one that is named
abbrev pub named : ℕ → ℕ → ℕ → ℕ → Bool
named row start i t = i == row && t == start

-- all that R holds but the named start
unfoldable pub without : Rows → ℕ → ℕ → Rows
without R row start i t = R i t && not (named row start i t)

-- all that R holds, and the named start where it is in range
unfoldable pub with : Rows → ℕ → ℕ → Rows
with R row start i t = R i t || (inside row start && named row start i t)

-- the start is in range and not in the row
abbrev pub missing : Rows → ℕ → ℕ → Bool
missing R row start = inside row start && not (R row start)

-- how many of the numbers below n are in f
unfoldable pub count : (ℕ → Bool) → ℕ → ℕ
count f zero = 0
count f (suc n) = cond (f n) 1 0 + count f n

-- how many starts a row has
abbrev pub size_of : (ℕ → Bool) → ℕ
size_of f = count f 256

-- v is the first start of the row f at or after `from`
pub record Earliest (f : ℕ → Bool) (from v : ℕ) : Type 0 where
  pub reached : from ≤ v
  pub held : f v ≡ true
  pub gap : (t : ℕ) → from ≤ t → t < v → f t ≡ false

-- the answer is the first start of the row f at or after `from`; nothing, where there is none
abbrev pub First : (ℕ → Bool) → ℕ → Option ℕ → Type 0
First f from (Some v) = Earliest f from v
First f from None = (t : ℕ) → from ≤ t → f t ≡ false
