-- The slots t to t + p - 1: how many, and their sum. Assumes nothing.
use Rattle.std.proofs.Common.{◌≡◌, ℕ, zero, suc, ◌+◌, ◌-◌, ◌*◌, ◌<◌, ◌≤◌, min, cond, ◌&&◌, ltb, leb, ◌⊎◌, ap, inl, inr, arith}
use native.Mathlib.Decide.{le_ind}
use Rattle.std.proofs.lemmas.Bool.{cases_lt}
use Rattle.std.proofs.lemmas.Bool.Decides.{nat_tests}
use Rattle.spreads.specs.Lines.{sum_to}
use Rattle.spreads.proofs.Sums.{sum_none, sum_longer}

-- 1 in the slots t to t + p - 1, else 0
unfoldable pub inside : ℕ → ℕ → ℕ → ℕ
inside t p k = cond (leb t k && ltb k (t + p)) 1 0

pub inside_yes : (t p k : ℕ) → t ≤ k → k < t + p → inside t p k ≡ 1
unfolding inside
inside_yes t p k a b = grind (arith, nat_tests)

pub inside_early : (t p k : ℕ) → k < t → inside t p k ≡ 0
unfolding inside
inside_early t p k a = grind (arith, nat_tests)

pub inside_past : (t p k : ℕ) → t + p ≤ k → inside t p k ≡ 0
unfolding inside
inside_past t p k a = grind (arith, nat_tests)

pub inside_cases : (t p k : ℕ) → (inside t p k ≡ 0) ⊎ ((inside t p k ≡ 1) × (t ≤ k) × (k < t + p))
inside_cases t p k = at (cases_lt k t) (cases_lt k (t + p))
  where
    at : (k < t) ⊎ (t ≤ k) → (k < t + p) ⊎ (t + p ≤ k) → (inside t p k ≡ 0) ⊎ ((inside t p k ≡ 1) × (t ≤ k) × (k < t + p))
    at (inl a) b = inl (inside_early t p k a)
    at (inr a) (inl b) = inr (inside_yes t p k a b, a, b)
    at (inr a) (inr b) = inl (inside_past t p k b)

pub count_inside : (t p n : ℕ) → sum_to n (inside t p) ≡ min n (t + p) - t
count_inside t p zero = omega arith
count_inside t p (suc n) = at (count_inside t p n) (cases_lt n t) (cases_lt n (t + p))
  where
    at : sum_to n (inside t p) ≡ min n (t + p) - t → (n < t) ⊎ (t ≤ n) → (n < t + p) ⊎ (t + p ≤ n) → sum_to n (inside t p) + inside t p n ≡ min (suc n) (t + p) - t
    at before (inl a) b = omega (arith, inside_early t p n a)
    at before (inr a) (inl b) = omega (arith, inside_yes t p n a b)
    at before (inr a) (inr b) = omega (arith, inside_past t p n b)

-- twice the sum of the slots t to n - 1
part : (t p n : ℕ) → t ≤ n → n ≤ t + p → 2 * sum_to n (λ k. inside t p k * k) + n + t * t ≡ n * n + t
part t p =
    le_ind (λ n. n ≤ t + p → 2 * sum_to n (λ k. inside t p k * k) + n + t * t ≡ n * n + t)
    (λ _. omega (arith, sum_none t (λ k. inside t p k * k) (λ k l. omega (arith, ap (λ x. x * k) (inside_early t p k l)))))
    (λ n after before l. omega (arith, before (omega arith), ap (λ x. x * n) (inside_yes t p n after l)))

-- twice the sum of the slots t to t + p - 1 is p * (2 * t + p - 1)
pub sum_inside : (t p n : ℕ) → t + p ≤ n → 2 * sum_to n (λ k. inside t p k * k) + p ≡ p * (2 * t + p)
sum_inside t p n l =
    omega (arith, part t p (t + p) (omega arith) (omega arith), sum_longer (t + p) n (λ k. inside t p k * k) (λ k past. omega (arith, ap (λ x. x * k) (inside_past t p k past))) l)
