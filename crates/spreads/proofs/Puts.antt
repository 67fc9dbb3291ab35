-- A function with one value changed. Assumes nothing.
use Rattle.std.proofs.Common.{◌≡◌, ℕ, zero, suc, ◌+◌, ◌*◌, ◌<◌, ◌≤◌, ◌⊎◌, sym, ap, ◌∙◌, inl, inr, arith}
use Rattle.std.proofs.lemmas.Bool.{cases_eq, eq-eqb, ne_eqb}
use Rattle.spreads.specs.Lines.{sum_to}
use Rattle.spreads.specs.Pinned.{put}
use Rattle.spreads.proofs.Sums.{sum_same}

pub put_same : (f : ℕ → ℕ) (i x j : ℕ) → i ≡ j → put f i x j ≡ x
put_same f i x j e = rw (eq-eqb i j e)

pub put_other : (f : ℕ → ℕ) (i x j : ℕ) → (i ≡ j → ⊥) → put f i x j ≡ f j
put_other f i x j o = rw (ne_eqb i j o)

-- where a lower value is put, or the other values are lower, no value is higher
pub put_le : (f g : ℕ → ℕ) (i x y j : ℕ) → x ≤ y → ((i ≡ j → ⊥) → f j ≤ g j) → put f i x j ≤ put g i y j
put_le f g i x y j h l = by (cases_eq i j)
  where
    by : (i ≡ j) ⊎ (i ≡ j → ⊥) → put f i x j ≤ put g i y j
    by (inl e) = omega (arith, put_same f i x j e, put_same g i y j e)
    by (inr o) = omega (arith, put_other f i x j o, put_other g i y j o, l o)

-- one term of a sum changed
pub sum_put : (n : ℕ) (f : ℕ → ℕ) (i x : ℕ) → i < n → sum_to n (put f i x) + f i ≡ sum_to n f + x
sum_put zero f i x h = omega arith
sum_put (suc n) f i x h = at (λ l. sum_put n f i x l) (cases_eq i n)
  where
    old : n ≤ i → sum_to n (put f i x) ≡ sum_to n f
    old l = sum_same n (put f i x) f (λ j m. put_other f i x j (λ e. omega arith))

    at : (i < n → sum_to n (put f i x) + f i ≡ sum_to n f + x) → (i ≡ n) ⊎ (i ≡ n → ⊥) → sum_to n (put f i x) + put f i x n + f i ≡ sum_to n f + f n + x
    at earlier (inl e) = omega (arith, old (omega arith), put_same f i x n e, ap f e)
    at earlier (inr o) = omega (arith, earlier (omega (arith, o)), put_other f i x n o)

-- one factor of a sum of products changed
pub sum_put_times : (n : ℕ) (f c : ℕ → ℕ) (i x : ℕ) → i < n → sum_to n (λ j. put f i x j * c j) + f i * c i ≡ sum_to n (λ j. f j * c j) + x * c i
sum_put_times n f c i x h = omega (arith, sum_same n (λ j. put f i x j * c j) (put (λ j. f j * c j) i (x * c i)) (λ j l. by j (cases_eq i j)), sum_put n (λ j. f j * c j) i (x * c i) h)
  where
    by : (j : ℕ) → (i ≡ j) ⊎ (i ≡ j → ⊥) → put f i x j * c j ≡ put (λ j. f j * c j) i (x * c i) j
    by j (inl e) = ap (λ y. y * c j) (put_same f i x j e) ∙ ap (λ k. x * c k) (sym e) ∙ sym (put_same (λ j. f j * c j) i (x * c i) j e)
    by j (inr o) = ap (λ y. y * c j) (put_other f i x j o) ∙ sym (put_other (λ j. f j * c j) i (x * c i) j o)
