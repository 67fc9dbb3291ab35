-- How many starts a table has. Assumes nothing.
use Rattle.std.proofs.Common.{◌≡◌, ℕ, zero, suc, ◌+◌, ◌-◌, ◌*◌, ◌<◌, ◌≤◌, Bool, true, false, not, ◌&&◌, ◌⊎◌, sym, refl, ap, ◌∙◌, inl, inr, ⊎_elim, arith}
use Rattle.std.proofs.lemmas.Bool.{cases_eq, cases_lt, cases_Bool}
use Rattle.stores.specs.Sets.{Bounded, without, count, size_of}
use Rattle.stores.proofs.Moves.{without_named, without_other, without_row}
use Rattle.stores.proofs.Counts.{count_mono, count_some, count_found, count_one_more, count_most, size_without}
use Rattle.spreads.specs.Lines.{sum_to}
use Rattle.spreads.proofs.Sums.{sum_le, sum_same, sum_add}
use Rattle.runs.specs.Tables.{Table, Setting, Within, Full, starts}

-- a row with two starts has one besides t
pub another : (T : Table) (i t : ℕ) → T i t ≡ true → 2 ≤ size_of (T i) → (u : ℕ) × (without T i t i u ≡ true)
another T i t on two = by (cases_lt t 256)
  where
    by : (t < 256) ⊎ (256 ≤ t) → (u : ℕ) × (without T i t i u ≡ true)
    by (inl l) =
        let one = count_one_more (T i) (without T i t i) t 256 l on (without_named T i t) (λ u ne. sym (without_other T i t i u (λ _ e. ne e))) in
        let (u, _, held) = count_found (without T i t i) 256 (omega arith) in
        (u, held)
    by (inr l) = let (u, m, held) = count_found (T i) 256 (omega arith) in (u, without_other T i t i u (λ _ e. omega arith) ∙ held)

-- a row, and what is left of it
count_split : (f g : ℕ → Bool) (n : ℕ) → ((k : ℕ) → g k ≡ true → f k ≡ true) → count f n ≡ count g n + count (λ k. f k && not (g k)) n
unfolding count
count_split f g zero h = refl
count_split f g (suc n) h =
    let rest = count_split f g n h in
    ⊎_elim
    (λ (e : g n ≡ true). rw (e, h n e) (omega arith))
    (λ (e : g n ≡ false). ⊎_elim (λ (d : f n ≡ true). rw (e, d) (omega arith)) (λ (d : f n ≡ false). rw (e, d) (omega arith)) (cases_Bool (f n)))
    (cases_Bool (g n))

module _ (w : Setting) where
  -- a table within another has no more starts
  pub starts_within : (T S : Table) → Within T S → starts w T ≤ starts w S
  starts_within T S h = sum_le w.tickets (λ i. size_of (T i)) (λ i. size_of (S i)) (λ i _. count_mono (T i) (S i) 256 (λ t _. h i t))

  -- the starts before are those left and those cut
  pub starts_split : (S T : Table) → Within T S → starts w S ≡ starts w T + starts w (λ i t. S i t && not (T i t))
  starts_split S T h =
      sum_same w.tickets (λ i. size_of (S i)) (λ i. size_of (T i) + size_of (λ t. S i t && not (T i t))) (λ i _. count_split (S i) (T i) 256 (h i))
      ∙ sum_add w.tickets (λ i. size_of (T i)) (λ i. size_of (λ t. S i t && not (T i t)))

  at_least : (n : ℕ) (f : ℕ → ℕ) → ((k : ℕ) → k < n → 1 ≤ f k) → n ≤ sum_to n f
  at_least zero f h = omega arith
  at_least (suc n) f h = omega (arith, at_least n f (λ k l. h k (omega arith)), h n (omega arith))

  -- where each ticket has a start there are as many as tickets at least
  pub starts_full : (T : Table) → ((i t : ℕ) → T i t ≡ true → t < 256) → Full w T → w.tickets ≤ starts w T
  starts_full T low h = at_least w.tickets (λ i. size_of (T i)) (λ i l. let (t, on) = h i l in count_some (T i) 256 t (low i t on) on)

  -- so a list that is enough has room for each cut
  pub cuts_fit : (S T : Table) → ((i t : ℕ) → T i t ≡ true → t < 256) → Full w T → starts w S - starts w T ≤ starts w S - w.tickets
  cuts_fit S T low h = omega (arith, starts_full T low h)

  at_most : (n : ℕ) (f : ℕ → ℕ) → ((k : ℕ) → f k ≤ 256) → sum_to n f ≤ 256 * n
  at_most zero f h = omega arith
  at_most (suc n) f h = omega (arith, at_most n f h, h n)

  pub starts_most : (T : Table) → starts w T ≤ 256 * w.tickets
  starts_most T = at_most w.tickets (λ i. size_of (T i)) (λ i. count_most (T i) 256)

  more_one : (n : ℕ) (f g : ℕ → ℕ) (k : ℕ) → k < n → f k ≡ g k + 1 → ((j : ℕ) → (j ≡ k → ⊥) → f j ≡ g j) → sum_to n f ≡ sum_to n g + 1
  more_one zero f g k l e h = absurd (omega arith)
  more_one (suc n) f g k l e h = by (cases_eq n k) (λ m. more_one n f g k m e h)
    where
      by : (n ≡ k) ⊎ (n ≡ k → ⊥) → (k < n → sum_to n f ≡ sum_to n g + 1) → sum_to (suc n) f ≡ sum_to (suc n) g + 1
      by (inl same) rest = omega (arith, sum_same n f g (λ j m. h j (λ z. omega arith)), ap f same, ap g same, e)
      by (inr other) rest = omega (arith, rest (omega (arith, other)), h n other)

  -- one start out of a ticket's row is one start less
  pub starts_without : (T : Table) (i t : ℕ) → Bounded T → i < w.tickets → T i t ≡ true → starts w T ≡ starts w (without T i t) + 1
  starts_without T i t b l on =
      more_one w.tickets (λ j. size_of (T j)) (λ j. size_of (without T i t j)) i l (size_without T i t b on) (λ j ne. ap size_of (sym (without_row T i t j ne)))
