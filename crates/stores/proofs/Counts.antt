-- How many starts a row has. Assumes nothing.
use Rattle.std.specs.Prelude.{◌≡◌, ℕ, zero, suc, ◌+◌, ◌<◌, ◌≤◌, Bool, true, false, ◌≢◌, refl}
use Rattle.std.proofs.Common.{sym, ap, ◌∙◌, ⊎_elim, arith, add-suc, add-zero}
use Rattle.std.proofs.lemmas.Bool.{cases_Bool, cases_eq, cases_order}
use Rattle.stores.specs.Sets.{Rows, Bounded, without, with, missing, count, size_of}
use Rattle.stores.specs.SetLaws.{SizeLaws}
use Rattle.stores.proofs.Moves.{without_named, without_other, with_named, with_other, without_row, with_row, missing_parts, inside_parts}

pub count_same : (f g : ℕ → Bool) (n : ℕ) → ((k : ℕ) → k < n → f k ≡ g k) → count f n ≡ count g n
unfolding count
count_same f g zero h = refl
count_same f g (suc n) h = let rest = count_same f g n (λ k l. h k (omega arith)) in grind (arith, h n)

pub count_none : (f : ℕ → Bool) (n : ℕ) → ((k : ℕ) → k < n → f k ≡ false) → count f n ≡ 0
unfolding count
count_none f zero h = refl
count_none f (suc n) h = let rest = count_none f n (λ k l. h k (omega arith)) in grind (arith, h n)

pub count_add : (f : ℕ → Bool) (m n : ℕ) → count f (m + n) ≡ count f m + count (λ k. f (m + k)) n
unfolding count
count_add f m zero = rw (add-zero m) (omega arith)
count_add f m (suc n) = rw add-suc (omega (arith, count_add f m n))

pub count_most : (f : ℕ → Bool) (n : ℕ) → count f n ≤ n
unfolding count
count_most f zero = omega arith
count_most f (suc n) = grind (arith, cases_Bool (f n), count_most f n)

-- f has k, and g has the rest: f has one more
pub count_one_more : (f g : ℕ → Bool) (k n : ℕ) → k < n → f k ≡ true → g k ≡ false → ((j : ℕ) → (j ≢ k) → f j ≡ g j) → count f n ≡ count g n + 1
unfolding count
count_one_more f g k zero l p q h = absurd (omega arith)
count_one_more f g k (suc n) l p q h =
    ⊎_elim
    (λ (e : n ≡ k). rw (ap f e ∙ p, ap g e ∙ q, count_same f g n (λ j m. h j (λ z. omega arith))) (omega arith))
    (λ (e : n ≡ k → ⊥). rw (h n e) (omega (arith, count_one_more f g k n (omega arith) p q h)))
    (cases_eq n k)

-- what holds of fewer counts no more
pub count_mono : (f g : ℕ → Bool) (n : ℕ) → ((k : ℕ) → k < n → f k ≡ true → g k ≡ true) → count f n ≤ count g n
unfolding count
count_mono f g zero h = omega arith
count_mono f g (suc n) h = let rest = count_mono f g n (λ k l. h k (omega arith)) in grind (arith, cases_Bool (f n), cases_Bool (g n), h n)

-- where one is in, the count is not 0
pub count_some : (f : ℕ → Bool) (n k : ℕ) → k < n → f k ≡ true → 1 ≤ count f n
unfolding count
count_some f zero k l e = absurd (omega arith)
count_some f (suc n) k l e = grind (arith, cases_eq n k, cases_Bool (f n), count_some f n k)

-- where the count is not 0, one is in
pub count_found : (f : ℕ → Bool) (n : ℕ) → 1 ≤ count f n → (k : ℕ) × (k < n) × (f k ≡ true)
unfolding count
count_found f zero h = absurd (omega arith)
count_found f (suc n) h =
    ⊎_elim
    (λ (e : f n ≡ true). (n, omega arith, e))
    (λ (e : f n ≡ false).
    let rest : 1 ≤ 0 + count f n = rw e at h in
    let (k, l, on) = count_found f n (omega arith) in
    (k, omega arith, on))
    (cases_Bool (f n))

-- where two are in, the count is 2 at least
pub count_two : (f : ℕ → Bool) (n j k : ℕ) → j < k → k < n → f j ≡ true → f k ≡ true → 2 ≤ count f n
unfolding count
count_two f zero j k l m p q = absurd (omega arith)
count_two f (suc n) j k l m p q = grind (arith, cases_eq n k, cases_Bool (f n), count_some f n j, count_two f n j k)

pub size_without : (R : Rows) (row start : ℕ) → Bounded R → R row start ≡ true → size_of (R row) ≡ size_of (without R row start row) + 1
size_without R row start b h =
    count_one_more (R row) (without R row start row) start 256 (b row start h).1 h (without_named R row start)
    (λ t ne. sym (without_other R row start row t (λ _ e. ne e)))

pub size_with : (R : Rows) (row start : ℕ) → missing R row start ≡ true → size_of (with R row start row) ≡ size_of (R row) + 1
size_with R row start h =
    let (p, off) = missing_parts R row start h in
    count_one_more (with R row start row) (R row) start 256 (inside_parts row start p).1 (with_named R row start p) off
    (λ t ne. with_other R row start row t (λ _ e. ne e))

size_nothing : (f : ℕ → Bool) (t : ℕ) → size_of f ≡ 0 → t < 256 → f t ≡ false
size_nothing f t e l = grind (arith, cases_Bool (f t), count_some f 256 t l)

size_only : (f : ℕ → Bool) (s t : ℕ) → size_of f ≡ 1 → s < 256 → t < 256 → f s ≡ true → f t ≡ true → s ≡ t
size_only f s t e k l p q = grind (arith, cases_order s t, count_two f 256 s t, count_two f 256 t s)

pub sizes : SizeLaws
sizes =
    record {
      less = size_without;
      more = size_with;
      others_out = λ R row start i h. ap size_of (without_row R row start i h);
      others_in = λ R row start i h. ap size_of (with_row R row start i h);
      most = λ f. count_most f 256;
      nothing = size_nothing;
      only = size_only;
    }
