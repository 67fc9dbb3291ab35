-- Laws of taking out and putting back. Assumes nothing.
use Rattle.std.specs.Prelude.{◌≡◌, ℕ, ◌<◌, true, false, ◌≢◌}
use Rattle.std.proofs.Math.Path.{fun_ext}
use Rattle.std.proofs.Common.{arith}
use Rattle.std.proofs.lemmas.Bool.Decides.{nat_tests}
use Rattle.stores.specs.Sets.{Rows, inside, Bounded, without, with, missing}
use Rattle.stores.specs.SetLaws.{MoveLaws}

-- the named start is out afterwards, and every other is as it was
pub without_named : (R : Rows) (row start : ℕ) → without R row start row start ≡ false
unfolding without
without_named R row start = grind (arith, nat_tests)

pub without_other : (R : Rows) (row start i t : ℕ) → (i ≡ row → t ≢ start) → without R row start i t ≡ R i t
unfolding without
without_other R row start i t h = grind (arith, nat_tests)

-- the named start is in afterwards, and every other is as it was
pub with_named : (R : Rows) (row start : ℕ) → inside row start ≡ true → with R row start row start ≡ true
unfolding with
with_named R row start h = grind (arith, nat_tests)

pub with_other : (R : Rows) (row start i t : ℕ) → (i ≡ row → t ≢ start) → with R row start i t ≡ R i t
unfolding with
with_other R row start i t h = grind (arith, nat_tests)

-- what is in after a start was taken out was in before
pub without_held : (R : Rows) (row start i t : ℕ) → without R row start i t ≡ true → R i t ≡ true
unfolding without
without_held R row start i t h = grind (arith, nat_tests)

-- what was in stays when a start is put back
pub with_held : (R : Rows) (row start i t : ℕ) → R i t ≡ true → with R row start i t ≡ true
unfolding with
with_held R row start i t h = grind (arith, nat_tests)

-- a start that is missing is in range
pub missing_parts : (R : Rows) (row start : ℕ) → missing R row start ≡ true → (inside row start ≡ true) × (R row start ≡ false)
missing_parts R row start h = (grind (arith, nat_tests), grind (arith, nat_tests))

pub inside_parts : (row start : ℕ) → inside row start ≡ true → (row < 24) × (start < 256)
inside_parts row start h = (grind (arith, nat_tests), grind (arith, nat_tests))

-- nothing is held out of range
pub held_inside : (R : Rows) (row start : ℕ) → Bounded R → inside row start ≡ false → R row start ≡ false
held_inside R row start b h = grind (arith, nat_tests, b row start)

pub without_absent : (R : Rows) (row start : ℕ) → R row start ≡ false → without R row start ≡ R
unfolding without
without_absent R row start h = fun_ext (λ i. fun_ext (λ t. grind (arith, nat_tests)))

pub with_present : (R : Rows) (row start : ℕ) → missing R row start ≡ false → with R row start ≡ R
unfolding with
with_present R row start h = fun_ext (λ i. fun_ext (λ t. grind (arith, nat_tests)))

pub with_without : (R : Rows) (row start : ℕ) → Bounded R → R row start ≡ true → with (without R row start) row start ≡ R
unfolding without with
with_without R row start b h = let (p, q) = b row start h in fun_ext (λ i. fun_ext (λ t. grind (arith, nat_tests)))

pub without_with : (R : Rows) (row start : ℕ) → missing R row start ≡ true → without (with R row start) row start ≡ R
unfolding without with
without_with R row start h = fun_ext (λ i. fun_ext (λ t. grind (arith, nat_tests)))

pub bounded_without : (R : Rows) (row start : ℕ) → Bounded R → Bounded (without R row start)
bounded_without R row start b i t h = b i t (without_held R row start i t h)

pub bounded_with : (R : Rows) (row start : ℕ) → Bounded R → Bounded (with R row start)
unfolding with
bounded_with R row start b i t h = (grind (arith, nat_tests, b i t), grind (arith, nat_tests, b i t))

pub without_row : (R : Rows) (row start i : ℕ) → (i ≢ row) → without R row start i ≡ R i
without_row R row start i h = fun_ext (λ t. without_other R row start i t (λ e _. h e))

pub with_row : (R : Rows) (row start i : ℕ) → (i ≢ row) → with R row start i ≡ R i
with_row R row start i h = fun_ext (λ t. with_other R row start i t (λ e _. h e))

pub moves : MoveLaws
moves =
    record {
      gone = without_named;
      there = with_named;
      alone_out = without_other;
      alone_in = with_other;
      absent = without_absent;
      present = with_present;
      back = with_without;
      again = without_with;
      bounded_out = bounded_without;
      bounded_in = bounded_with;
    }
