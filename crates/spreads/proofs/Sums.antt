-- Laws of `sum_to`. Assumes nothing.
use Rattle.std.proofs.Common.{◌≡◌, ℕ, zero, suc, ◌+◌, ◌*◌, ◌<◌, ◌≤◌, ◌⊎◌, sym, refl, ap, inl, inr, arith}
use native.Mathlib.Decide.{le_ind}
use Rattle.std.proofs.lemmas.Bool.{cases_eq}
use Rattle.spreads.specs.Lines.{sum_to}

pub sum_le : (n : ℕ) (f g : ℕ → ℕ) → ((k : ℕ) → k < n → f k ≤ g k) → sum_to n f ≤ sum_to n g
sum_le zero f g h = omega arith
sum_le (suc n) f g h = omega (arith, sum_le n f g (λ k l. h k (omega arith)), h n (omega arith))

pub sum_same : (n : ℕ) (f g : ℕ → ℕ) → ((k : ℕ) → k < n → f k ≡ g k) → sum_to n f ≡ sum_to n g
sum_same zero f g h = refl
sum_same (suc n) f g h = omega (arith, sum_same n f g (λ k l. h k (omega arith)), h n (omega arith))

pub sum_none : (n : ℕ) (f : ℕ → ℕ) → ((k : ℕ) → k < n → f k ≡ 0) → sum_to n f ≡ 0
sum_none zero f h = refl
sum_none (suc n) f h = omega (arith, sum_none n f (λ k l. h k (omega arith)), h n (omega arith))

pub sum_add : (n : ℕ) (f g : ℕ → ℕ) → sum_to n (λ k. f k + g k) ≡ sum_to n f + sum_to n g
sum_add zero f g = omega arith
sum_add (suc n) f g = omega (arith, sum_add n f g)

pub sum_times : (n c : ℕ) (f : ℕ → ℕ) → sum_to n (λ k. c * f k) ≡ c * sum_to n f
sum_times zero c f = omega arith
sum_times (suc n) c f = omega (arith, sum_times n c f)

-- the order of two sums does not matter
pub sum_swap : (n m : ℕ) (f : ℕ → ℕ → ℕ) → sum_to n (λ i. sum_to m (λ k. f i k)) ≡ sum_to m (λ k. sum_to n (λ i. f i k))
sum_swap zero m f = sym (sum_none m (λ k. 0) (λ k l. refl))
sum_swap (suc n) m f = omega (arith, sum_swap n m f, sum_add m (λ k. sum_to n (λ i. f i k)) (λ k. f n k))

pub term_le : (n : ℕ) (f : ℕ → ℕ) (k : ℕ) → k < n → f k ≤ sum_to n f
term_le zero f k h = omega arith
term_le (suc n) f k h = at (λ l. term_le n f k l) (cases_eq k n)
  where
    at : (k < n → f k ≤ sum_to n f) → (k ≡ n) ⊎ (k ≡ n → ⊥) → f k ≤ sum_to n f + f n
    at earlier (inl e) = omega (arith, ap f e)
    at earlier (inr o) = omega (arith, earlier (omega (arith, o)))

-- a longer sum, where what is added is 0
pub sum_longer : (n m : ℕ) (f : ℕ → ℕ) → ((k : ℕ) → n ≤ k → f k ≡ 0) → n ≤ m → sum_to m f ≡ sum_to n f
sum_longer n m f h = le_ind (λ m. sum_to m f ≡ sum_to n f) refl (λ m l e. omega (arith, h m l)) m

pub sum_grows : (n m : ℕ) (f : ℕ → ℕ) → n ≤ m → sum_to n f ≤ sum_to m f
sum_grows n m f = le_ind (λ m. sum_to n f ≤ sum_to m f) (omega arith) (λ m l e. omega arith) m

-- summation by parts
pub by_parts : (n : ℕ) (f : ℕ → ℕ) → sum_to n (λ k. f k * k) + sum_to n (λ k. sum_to (suc k) f) ≡ n * sum_to n f
by_parts zero f = omega arith
by_parts (suc n) f = omega (arith, by_parts n f)

-- where no term passes the other's, and the sum is no less, the terms are the same
pub terms_same : (n : ℕ) (f g : ℕ → ℕ) → ((k : ℕ) → k < n → f k ≤ g k) → sum_to n g ≤ sum_to n f → (k : ℕ) → k < n → f k ≡ g k
terms_same zero f g h e k l = omega arith
terms_same (suc n) f g h e k l = at (terms_same n f g (λ q m. h q (omega arith)) (omega (arith, h n (omega arith)))) (cases_eq k n)
  where
    at : ((q : ℕ) → q < n → f q ≡ g q) → (k ≡ n) ⊎ (k ≡ n → ⊥) → f k ≡ g k
    at before (inl q) = omega (arith, ap f q, ap g q, h n (omega arith), sum_same n f g before)
    at before (inr o) = before k (omega (arith, o))
