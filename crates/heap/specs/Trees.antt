-- Entries by their keys, and trees of them. Assumes nothing.
use Rattle.std.specs.Prelude.{◌≡◌, ℕ, ◌-◌, ◌/◌, ◌<◌, Bool, false, List, [], ◌∷◌, length, take, slice_index_or}
use Rattle.std.specs.List.{AllByRecursion}
use Rattle.std.specs.Ordering.{is_lt}
use Rattle.std.specs.declared.cmp.Ordering.{Ordering}

-- a comes before b
abbrev pub below : {K : Type 0} → (K → K → Ordering) → K → K → Bool
below cmp a b = is_lt (cmp a b)

-- x is before y, by their keys
abbrev pub by_key : {X K : Type 0} → (K → K → Bool) → (X → K) → X → X → Bool
by_key before keyed x y = before (keyed x) (keyed y)

-- in a tree of n places, the place i is a child of the place p
abbrev pub Child : ℕ → ℕ → ℕ → Type 0
Child n p i = (0 < i) × (i < n) × ((i - 1) / 2 ≡ p)

module _ {X : Type 0} (before : X → X → Bool) where
  -- no entry is before its parent
  abbrev pub Tree : List X → Type 0
  Tree xs = (d : X) (p i : ℕ) → Child (length xs) p i → before (slice_index_or xs i d) (slice_index_or xs p d) ≡ false

  -- x stands first in xs, and no entry of xs is before it
  pub record Front (xs : List X) (x : X) : Type 0 where
    pub first : take 1 xs ≡ x ∷ []
    pub least : AllByRecursion (λ y. before y x ≡ false) xs
