-- What writing a text does: to a buffer, and to anything that takes its bytes. Assumes nothing.
use Rattle.std.specs.Prelude.{◌≡◌, ℕ, ◌+◌, ◌≤◌, List, ◌++◌, length, take, drop}

-- the buffer `was` becomes `is`: the text stands from `at` to `end`, and all else is as it was
pub record Placed (was : List ℕ) (at : ℕ) (text is : List ℕ) (end : ℕ) : Type 0 where
  pub ends : end ≡ at + length text
  pub room : end ≤ length was
  pub front : take end is ≡ take at was ++ text
  pub back : drop end is ≡ drop end was

-- n is the length of a text of which P holds
abbrev pub Long : (List ℕ → Type 0) → ℕ → Type 0
Long P n = (text : List ℕ) × P text × (n ≡ length text)

-- a buffer of the given size has room from `at` on for a text of which P holds
abbrev pub Fits : (List ℕ → Type 0) → ℕ → ℕ → Type 0
Fits P at size = (text : List ℕ) × P text × (at + length text ≤ size)

-- whatever text P holds of, it is placed
abbrev pub Writes : (List ℕ → Type 0) → List ℕ → ℕ → List ℕ → ℕ → Type 0
Writes P was at is end = (text : List ℕ) → P text → Placed was at text is end

-- a text of which P holds has no more than the given bytes
abbrev pub HasRoom : (List ℕ → Type 0) → ℕ → Type 0
HasRoom P room = (text : List ℕ) × P text × (length text ≤ room)

-- whatever text P holds of, it is taken
abbrev pub IsTaken : (List ℕ → Type 0) → (List ℕ → Type 0) → Type 0
IsTaken P taken = (text : List ℕ) → P text → taken text
