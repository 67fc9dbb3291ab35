-- What the steps of sifting answer: the place that an entry goes to next. Assumes nothing.
use Rattle.std.specs.Prelude.{◌≡◌, ℕ, Bool, true, false, List, length, Some, None, Option, slice_index_or}
use Rattle.heap.specs.Trees.{Child}

module _ {X : Type 0} (before : X → X → Bool) where
  -- the entry at i is before its parent at p, or is not before its parent
  abbrev pub Higher : List X → ℕ → Option ℕ → Type 0
  Higher xs i (Some p) = Child (length xs) p i × ((d : X) → before (slice_index_or xs i d) (slice_index_or xs p d) ≡ true)
  Higher xs i None = (d : X) (p : ℕ) → Child (length xs) p i → before (slice_index_or xs i d) (slice_index_or xs p d) ≡ false

  -- c is a child of p that no child of p is before, or p has no child
  abbrev pub FirstChild : List X → ℕ → Option ℕ → Type 0
  FirstChild xs p (Some c) = Child (length xs) p c × ((d : X) (i : ℕ) → Child (length xs) p i → before (slice_index_or xs i d) (slice_index_or xs c d) ≡ false)
  FirstChild xs p None = (i : ℕ) → Child (length xs) p i → ⊥

  -- c is such a child, and is before its parent at p; or no child of p is before p
  abbrev pub Lower : List X → ℕ → Option ℕ → Type 0
  Lower xs p (Some c) = FirstChild xs p (Some c) × ((d : X) → before (slice_index_or xs c d) (slice_index_or xs p d) ≡ true)
  Lower xs p None = (d : X) (i : ℕ) → Child (length xs) p i → before (slice_index_or xs i d) (slice_index_or xs p d) ≡ false
