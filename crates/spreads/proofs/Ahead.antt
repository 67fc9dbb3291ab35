-- Who serves the tickets of greater value first has the least weighted sum. Assumes nothing.
use Rattle.std.proofs.Common.{◌≡◌, ℕ, zero, suc, ◌+◌, ◌*◌, ◌<◌, ◌≤◌, min, Bool, true, false, cond, ltb, ◌⊎◌, sym, ap, ◌∙◌, inl, inr, mul-le-mul_left, arith}
use Rattle.std.proofs.lemmas.Bool.{cases_Bool, cases_lt, cond-false, lt-ltb, le-ltb}
use Rattle.spreads.specs.Lines.{sum_to}
use Rattle.spreads.specs.Domination.{Amounts, given, members, Serves, Domination, weighted, ServingIsLeast}
use Rattle.spreads.proofs.Sums.{sum_le, sum_same, sum_none, sum_add, sum_times, sum_swap, term_le, by_parts}

-- what is given in the first t slots, counted ticket by ticket
pub by_ticket : (n : ℕ) (v : ℕ → ℕ) (a : Amounts) (t : ℕ) → sum_to t (given n v a) ≡ sum_to n (λ i. v i * sum_to t (a i))
by_ticket n v a t = sum_swap t n (λ k i. v i * a i k) ∙ sum_same n (λ i. sum_to t (λ k. v i * a i k)) (λ i. v i * sum_to t (a i)) (λ i l. sum_times t (v i) (a i))

-- the weighted sum, counted slot by slot
pub by_slot : (n : ℕ) (v : ℕ → ℕ) (a : Amounts) (t : ℕ) → weighted n v a t ≡ sum_to t (λ k. given n v a k * k)
by_slot n v a t =
    sum_same n (λ i. v i * sum_to t (λ k. a i k * k)) (λ i. sum_to t (λ k. v i * (a i k * k))) (λ i l. sym (sum_times t (v i) (λ k. a i k * k)))
    ∙ sum_swap n t (λ i k. v i * (a i k * k))
    ∙ sum_same t (λ k. sum_to n (λ i. v i * (a i k * k))) (λ k. given n v a k * k) (λ k l. one k)
  where
    one : (k : ℕ) → sum_to n (λ i. v i * (a i k * k)) ≡ given n v a k * k
    one k = omega (arith, sum_same n (λ i. v i * (a i k * k)) (λ i. k * (v i * a i k)) (λ i l. omega arith), sum_times n k (λ i. v i * a i k))

-- Domination, by induction on the number of slots. Either the set gets no less in the last slot, and the lead is kept, or each
-- ticket of the set has had no less by its end, and the lead is counted ticket by ticket.
pub domination : Domination
domination n H g a zero h = omega arith
domination n H g a (suc t) h = at (h t (omega arith)) (domination n H g a t (λ k l. h k (omega arith)))
  where
    each : ((i : ℕ) → i < n → H i ≡ true → sum_to (suc t) (a i) ≤ sum_to (suc t) (g i)) → (i : ℕ) → i < n → members H i * sum_to (suc t) (a i) ≤ members H i * sum_to (suc t) (g i)
    each b i l = by (cases_Bool (H i))
      where
        by : (H i ≡ true) ⊎ (H i ≡ false) → members H i * sum_to (suc t) (a i) ≤ members H i * sum_to (suc t) (g i)
        by (inl e) = mul-le-mul_left (members H i) (b i l e)
        by (inr e) = rw (cond-false {A = ℕ} (H i) 1 0 e) (omega arith)

    at : Serves n H g a t → sum_to t (given n (members H) a) ≤ sum_to t (given n (members H) g) → sum_to (suc t) (given n (members H) a) ≤ sum_to (suc t) (given n (members H) g)
    at (inl now) before = omega arith
    at (inr so_far) before =
        let less = sum_le n (λ i. members H i * sum_to (suc t) (a i)) (λ i. members H i * sum_to (suc t) (g i)) (each so_far) in
        omega (arith, less, by_ticket n (members H) a (suc t), by_ticket n (members H) g (suc t))

-- one layer more of a value: what it has above m
layer : (m v : ℕ) → min v (suc m) ≡ min v m + cond (ltb m v) 1 0
layer m v = at (cases_lt m v)
  where
    at : (m < v) ⊎ (v ≤ m) → min v (suc m) ≡ min v m + cond (ltb m v) 1 0
    at (inl l) = rw (lt-ltb m v l) (omega arith)
    at (inr l) = rw (le-ltb m v l) (omega arith)

module _ (n : ℕ) (v : ℕ → ℕ) (g a : Amounts) (t : ℕ) (h : (m k : ℕ) → k < t → Serves n (λ i. ltb m (v i)) g a k) where
  abbrev cut : ℕ → ℕ → ℕ
  cut m i = min (v i) m

  abbrev over : ℕ → ℕ → Bool
  over m i = ltb m (v i)

  -- a slot's value with one layer more
  layers : (m : ℕ) (x : Amounts) (s : ℕ) → sum_to s (given n (cut (suc m)) x) ≡ sum_to s (given n (cut m) x) + sum_to s (given n (members (over m)) x)
  layers m x s = sum_same s (given n (cut (suc m)) x) (λ k. given n (cut m) x k + given n (members (over m)) x k) (λ k l. one k) ∙ sum_add s (given n (cut m) x) (given n (members (over m)) x)
    where
      one : (k : ℕ) → given n (cut (suc m)) x k ≡ given n (cut m) x k + given n (members (over m)) x k
      one k =
          sum_same n (λ i. cut (suc m) i * x i k) (λ i. cut m i * x i k + members (over m) i * x i k) (λ i l. omega (arith, ap (λ z. z * x i k) (layer m (v i))))
          ∙ sum_add n (λ i. cut m i * x i k) (λ i. members (over m) i * x i k)

  -- g is ahead in value, each ticket's value cut off at m: layer upon layer ..
  ahead_cut : (m s : ℕ) → s ≤ t → sum_to s (given n (cut m) a) ≤ sum_to s (given n (cut m) g)
  ahead_cut zero s l = omega (arith, sum_none s (given n (cut 0) a) (λ k q. sum_none n (λ i. cut 0 i * a i k) (λ i p. let z : cut 0 i ≡ 0 = omega arith in omega (arith, ap (λ y. y * a i k) z))))
  ahead_cut (suc m) s l = omega (arith, ahead_cut m s l, domination n (over m) g a s (λ k q. h m k (omega arith)), layers m a s, layers m g s)

  -- .. and no value is above the sum of all
  uncut : (x : Amounts) (s : ℕ) → sum_to s (given n (cut (sum_to n v)) x) ≡ sum_to s (given n v x)
  uncut x s =
      sum_same s (given n (cut (sum_to n v)) x) (given n v x)
      (λ k q. sum_same n (λ i. cut (sum_to n v) i * x i k) (λ i. v i * x i k) (λ i l. ap (λ z. z * x i k) (omega (arith, term_le n v i l))))

  pub ahead : (s : ℕ) → s ≤ t → sum_to s (given n v a) ≤ sum_to s (given n v g)
  ahead s l = omega (arith, ahead_cut (sum_to n v) s l, uncut a s, uncut g s)

-- The total is the same, and g is ahead at any time: so, summing by parts, its slots weigh less.
pub serving_is_least : ServingIsLeast
serving_is_least n v g a t h e =
    let G : ℕ → ℕ = given n v g in
    let A : ℕ → ℕ = given n v a in
    let more = sum_le t (λ k. sum_to (suc k) A) (λ k. sum_to (suc k) G) (λ k l. ahead n v g a t h (suc k) l) in
    let same : sum_to t G ≡ sum_to t A = by_ticket n v g t ∙ sum_same n (λ i. v i * sum_to t (g i)) (λ i. v i * sum_to t (a i)) (λ i l. ap (λ z. v i * z) (e i l)) ∙ sym (by_ticket n v a t) in
    omega (arith, more, by_parts t G, by_parts t A, ap (λ z. t * z) same, by_slot n v g t, by_slot n v a t)
