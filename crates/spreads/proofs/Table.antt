-- The rule of the table of quotients, from one test of the whole table. Assumes nothing.
use Rattle.std.proofs.Common.{◌≡◌, ℕ, zero, suc, ◌-◌, ◌*◌, ◌/◌, ◌<◌, ◌≤◌, Bool, true, ◌&&◌, eqb, List, [], ◌∷◌, get_or, sym, refl, ap, ◌∙◌, arith}
use native.Mathlib.Nat.{div-eq_of_eq-mul_left}
use Rattle.std.proofs.lemmas.Bool.Decides.{Decides-eqb, Decides-below_and}

-- the quotients of the lengths 1 to 16
abbrev pub table : List ℕ
table = 720720 ∷ 360360 ∷ 240240 ∷ 180180 ∷ 144144 ∷ 120120 ∷ 102960 ∷ 90090 ∷ 80080 ∷ 72072 ∷ 65520 ∷ 60060 ∷ 55440 ∷ 51480 ∷ 48048 ∷ 45045 ∷ []

-- the test: entry times length is 720720, at each of the first n entries
abbrev exact : ℕ → Bool
exact n = eqb (get_or table n 0 * suc n) 720720

abbrev all_exact : ℕ → Bool
all_exact zero = true
all_exact (suc n) = exact n && all_exact n

entry : (k : ℕ) → k < 16 → get_or table k 0 * suc k ≡ 720720
entry = (Decides-below_and exact (λ k. get_or table k 0 * suc k ≡ 720720) all_exact (λ k. Decides-eqb (get_or table k 0 * suc k) 720720) refl (λ k. refl) 16).0 refl

-- the rule, at each length
pub rule : (p : ℕ) → 1 ≤ p → p ≤ 16 → get_or table (p - 1) 0 * p ≡ 720720
rule p l h = ap (λ n. get_or table (p - 1) 0 * n) (omega arith) ∙ entry (p - 1) (omega arith)

-- what keeps the rule is the quotient
pub is_quotient : (p q : ℕ) → 1 ≤ p → q * p ≡ 720720 → q ≡ 720720 / p
is_quotient p q l e = sym (div-eq_of_eq-mul_left l (sym e))

-- each length divides 720720
pub divides : (p : ℕ) → 1 ≤ p → p ≤ 16 → (720720 / p) * p ≡ 720720
divides p l h = ap (λ q. q * p) (sym (is_quotient p (get_or table (p - 1) 0) l (rule p l h))) ∙ rule p l h
