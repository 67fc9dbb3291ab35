-- Bits of one place, and powers of two. Assumes nothing.
use Rattle.std.specs.Prelude.{◌≡◌, ℕ, ◌+◌, ◌-◌, ◌*◌, ◌%◌, ◌^◌, ◌<◌, ◌≤◌, Bool, true, false, ◌&&◌, ◌||◌, ◌⊎◌, ◌==◌}
use Rattle.std.proofs.Common.{ap, ◌∙◌, ⊎_elim, arith, cond}
use Rattle.std.specs.Int.Bits.{bit_and, bit_or}
use Rattle.std.proofs.lemmas.Nat.{pow-add}

pub two : (x : ℕ) → x < 2 → (x ≡ 0) ⊎ (x ≡ 1)
two x h = grind arith

pub or_two : (x y : ℕ) → x < 2 → y < 2 → (bit_or x y == 1) ≡ (x == 1 || y == 1)
or_two x y p q =
    ⊎_elim
    (λ (e : x ≡ 0). ⊎_elim (λ (f : y ≡ 0). rw (e, f)) (λ (f : y ≡ 1). rw (e, f)) (two y q))
    (λ (e : x ≡ 1). ⊎_elim (λ (f : y ≡ 0). rw (e, f)) (λ (f : y ≡ 1). rw (e, f)) (two y q))
    (two x p)

pub and_two : (x y : ℕ) → x < 2 → y < 2 → (bit_and x y == 1) ≡ (x == 1 && y == 1)
and_two x y p q =
    ⊎_elim
    (λ (e : x ≡ 0). rw e)
    (λ (e : x ≡ 1). ⊎_elim (λ (f : y ≡ 0). rw (e, f)) (λ (f : y ≡ 1). rw (e, f)) (two y q))
    (two x p)

pub pow_even : (d : ℕ) → 0 < d → 2 ^ d % 2 ≡ 0
pow_even d h =
    let e : d ≡ (d - 1) + 1 = omega arith in
    let f : 2 ^ d ≡ 2 ^ (d - 1) * 2 = ap (λ x. 2 ^ x) e ∙ pow-add 2 (d - 1) 1 in
    omega (arith, f)

pub one_or_none : (b : Bool) → cond {A = ℕ} b 1 0 ≤ 1
one_or_none true = omega arith
one_or_none false = omega arith
