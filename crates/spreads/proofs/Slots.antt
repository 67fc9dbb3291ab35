-- What one slot plays. Assumes nothing.
use Rattle.std.proofs.Common.{◌≡◌, ℕ, zero, suc, ◌+◌, ◌*◌, ◌<◌, ◌≤◌, ◌⊎◌, sym, ap, inl, inr, arith}
use Rattle.std.proofs.lemmas.Bool.{cases_eq, cases_lt, eq-eqb, ne_eqb}
use Rattle.spreads.specs.Lines.{sum_to, Slot, idle, playing, amount}
use Rattle.spreads.proofs.Sums.{sum_none}

pub amount_same : (i j : ℕ) → i ≡ j → amount i (playing j) ≡ 1
amount_same i j e = rw (eq-eqb i j e)

pub amount_other : (i j : ℕ) → (i ≡ j → ⊥) → amount i (playing j) ≡ 0
amount_other i j o = rw (ne_eqb i j o)

pub amount_is : (i : ℕ) (x : Slot) → amount i x ≡ 1 → x ≡ playing i
amount_is i idle e = absurd (omega arith)
amount_is i (playing j) e = by (cases_eq i j)
  where
    by : (i ≡ j) ⊎ (i ≡ j → ⊥) → playing j ≡ playing i
    by (inl q) = ap playing (sym q)
    by (inr o) = absurd (omega (arith, amount_other i j o))

-- of a sum over the tickets only the one that plays counts, if it is among them
pub pick_none : (n : ℕ) (w : ℕ → ℕ) (j : ℕ) → n ≤ j → sum_to n (λ i. w i * amount i (playing j)) ≡ 0
pick_none n w j h = sum_none n (λ i. w i * amount i (playing j)) (λ i l. omega (arith, ap (λ x. w i * x) (amount_other i j (λ q. omega arith))))

pub pick : (n : ℕ) (w : ℕ → ℕ) (j : ℕ) → j < n → sum_to n (λ i. w i * amount i (playing j)) ≡ w j
pick zero w j h = omega arith
pick (suc n) w j h = at (λ l. pick n w j l) (cases_eq n j)
  where
    at : (j < n → sum_to n (λ i. w i * amount i (playing j)) ≡ w j) → (n ≡ j) ⊎ (n ≡ j → ⊥) → sum_to n (λ i. w i * amount i (playing j)) + w n * amount n (playing j) ≡ w j
    at earlier (inl e) = omega (arith, pick_none n w j (omega arith), ap (λ x. w n * x) (amount_same n j e), ap w e)
    at earlier (inr o) = omega (arith, earlier (omega (arith, o)), ap (λ x. w n * x) (amount_other n j o))

-- a slot plays one ticket at most
pub one_at_most : (n : ℕ) (w : ℕ → ℕ) → ((i : ℕ) → w i ≤ 1) → (x : Slot) → sum_to n (λ i. w i * amount i x) ≤ 1
one_at_most n w h idle = omega (arith, sum_none n (λ i. w i * 0) (λ i l. omega arith))
one_at_most n w h (playing j) = at (cases_lt j n)
  where
    at : (j < n) ⊎ (n ≤ j) → sum_to n (λ i. w i * amount i (playing j)) ≤ 1
    at (inl l) = omega (arith, pick n w j l, h j)
    at (inr l) = omega (arith, pick_none n w j l)
