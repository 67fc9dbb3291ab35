-- A test of each number of a range, and what it shows of them. Assumes nothing.
use Rattle.std.proofs.Common.{◌≡◌, ℕ, zero, suc, ◌+◌, ◌<◌, ◌≤◌, Bool, true, ◌&&◌, subst, ⊎_elim, arith}
use Rattle.std.proofs.lemmas.Bool.{cases_eq, and_parts}

-- the n numbers from a on pass
abbrev pub all_from : ℕ → ℕ → (ℕ → Bool) → Bool
all_from a zero f = true
all_from a (suc n) f = f a && all_from (suc a) n f

pub passes : (a n : ℕ) (f : ℕ → Bool) → all_from a n f ≡ true → (t : ℕ) → a ≤ t → t < a + n → f t ≡ true
passes a zero f e t l m = absurd (omega arith)
passes a (suc n) f e t l m =
    let (here, rest) = and_parts (f a) (all_from (suc a) n f) e in
    ⊎_elim
    (λ (s : a ≡ t). subst (λ u. f u ≡ true) s here)
    (λ (o : a ≡ t → ⊥). passes (suc a) n f rest t (omega (arith, o)) (omega arith))
    (cases_eq a t)

-- the same of the numbers below n
pub passes_below : (n : ℕ) (f : ℕ → Bool) → all_from 0 n f ≡ true → (t : ℕ) → t < n → f t ≡ true
passes_below n f e t l = passes 0 n f e t (omega arith) (omega arith)
