-- Laws of the rows of every store. Assumes nothing.
use Rattle.std.specs.Prelude.{◌≡◌, ℕ, ◌+◌, ◌<◌, ◌≤◌, Bool, true, false, Some, None, Option, ◌≢◌}
use Rattle.stores.specs.Sets.{Rows, inside, Bounded, without, with, missing, size_of, Earliest, First}

-- what taking out and putting back do to the rows
pub record MoveLaws : Type 0 where
  -- what was taken out is out, and what was put back in range is in
  pub gone : (R : Rows) (row start : ℕ) → without R row start row start ≡ false
  pub there : (R : Rows) (row start : ℕ) → inside row start ≡ true → with R row start row start ≡ true
  -- only the named start is touched
  pub alone_out : (R : Rows) (row start i t : ℕ) → (i ≡ row → t ≢ start) → without R row start i t ≡ R i t
  pub alone_in : (R : Rows) (row start i t : ℕ) → (i ≡ row → t ≢ start) → with R row start i t ≡ R i t
  -- taking out what is absent changes nothing
  pub absent : (R : Rows) (row start : ℕ) → R row start ≡ false → without R row start ≡ R
  -- putting back what is not missing changes nothing
  pub present : (R : Rows) (row start : ℕ) → missing R row start ≡ false → with R row start ≡ R
  -- putting back what was taken out gives the old rows
  pub back : (R : Rows) (row start : ℕ) → Bounded R → R row start ≡ true → with (without R row start) row start ≡ R
  -- taking out what was put back where it was missing gives the old rows
  pub again : (R : Rows) (row start : ℕ) → missing R row start ≡ true → without (with R row start) row start ≡ R
  -- neither leaves the range
  pub bounded_out : (R : Rows) (row start : ℕ) → Bounded R → Bounded (without R row start)
  pub bounded_in : (R : Rows) (row start : ℕ) → Bounded R → Bounded (with R row start)

-- what they do to the sizes, and what a size tells
pub record SizeLaws : Type 0 where
  -- taking out what is there makes the row one smaller
  pub less : (R : Rows) (row start : ℕ) → Bounded R → R row start ≡ true → size_of (R row) ≡ size_of (without R row start row) + 1
  -- putting back what is missing makes the row one larger
  pub more : (R : Rows) (row start : ℕ) → missing R row start ≡ true → size_of (with R row start row) ≡ size_of (R row) + 1
  -- other rows keep their sizes
  pub others_out : (R : Rows) (row start i : ℕ) → (i ≢ row) → size_of (without R row start i) ≡ size_of (R i)
  pub others_in : (R : Rows) (row start i : ℕ) → (i ≢ row) → size_of (with R row start i) ≡ size_of (R i)
  -- a row has at most 256 starts
  pub most : (f : ℕ → Bool) → size_of f ≤ 256
  -- a row of size 0 is empty
  pub nothing : (f : ℕ → Bool) (t : ℕ) → size_of f ≡ 0 → t < 256 → f t ≡ false
  -- a row of size 1 has one start only
  pub only : (f : ℕ → Bool) (s t : ℕ) → size_of f ≡ 1 → s < 256 → t < 256 → f s ≡ true → f t ≡ true → s ≡ t

-- what after answers
pub record AfterLaws : Type 0 where
  -- there is only one answer
  pub one : (f : ℕ → Bool) (from : ℕ) (a b : Option ℕ) → First f from a → First f from b → a ≡ b
  -- a start that is found is in the row, and in range
  pub held : (R : Rows) (row from v : ℕ) → Bounded R → First (R row) from (Some v) → (R row v ≡ true) × (row < 24) × (v < 256)
  -- a start at or after `from` is the one that is found, or comes later
  pub later : (f : ℕ → Bool) (from v t : ℕ) → First f from (Some v) → from ≤ t → f t ≡ true → (t ≢ v) → v + 1 ≤ t
  -- where a start at or after `from` is in the row, one is found, and not after it
  pub found : (f : ℕ → Bool) (from t : ℕ) → from ≤ t → f t ≡ true → (v : ℕ) × Earliest f from v × (v ≤ t)
  -- nothing is found from 0 on: the size is 0
  pub none : (f : ℕ → Bool) → First f 0 None → size_of f ≡ 0

-- out of range the answers are no, 0 and nothing, and no row differs
pub record RangeLaws : Type 0 where
  pub holds : (R : Rows) (row start : ℕ) → Bounded R → inside row start ≡ false → R row start ≡ false
  pub size : (R : Rows) (row : ℕ) → Bounded R → 24 ≤ row → size_of (R row) ≡ 0
  pub after : (R : Rows) (row start : ℕ) (a : Option ℕ) → Bounded R → inside row start ≡ false → First (R row) start a → a ≡ None
  pub take_out : (R : Rows) (row start : ℕ) → Bounded R → inside row start ≡ false → without R row start ≡ R
  pub put_back : (R : Rows) (row start : ℕ) → inside row start ≡ false → (missing R row start ≡ false) × (with R row start ≡ R)

-- all of these
pub record SetLaws : Type 0 where
  pub moves : MoveLaws
  pub sizes : SizeLaws
  pub afters : AfterLaws
  pub range : RangeLaws
