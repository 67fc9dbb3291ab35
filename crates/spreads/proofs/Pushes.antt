-- A line with one more slot. Assumes nothing.
use Rattle.std.proofs.Common.{◌≡◌, ℕ, suc, ◌+◌, ◌*◌, ◌<◌, ◌≤◌, ◌⊎◌, List, [], ◌∷◌, ◌++◌, length, sym, refl, ap, ◌∙◌, subst, inl, inr, arith}
use Rattle.std.proofs.lemmas.List.{get_or_append_left, get_or_push, length_push}
use Rattle.std.proofs.lemmas.Bool.{cases_eq}
use Rattle.tickets.specs.declared.ticket.Ticket.{Ticket}
use Rattle.spreads.specs.Lines.{sum_to, Slot, idle, playing, slot, amount, amounts, played, slot_sum}
use Rattle.spreads.specs.Greedy.{Waiting, Chosen, Greedy, busy}
use Rattle.spreads.proofs.Sums.{sum_same, sum_add, sum_times}

module _ (L : List Slot) (x : Slot) where
  abbrev pub more : List Slot
  more = L ++ x ∷ []

  pub push_length : length more ≡ suc (length L)
  push_length = omega (arith, length_push L x)

  push_slot : (k : ℕ) → k < length L → slot more k ≡ slot L k
  push_slot k h = get_or_append_left L (x ∷ []) idle k h

  push_last : slot more (length L) ≡ x
  push_last = get_or_push L x idle (length L) refl

  -- what was played before is as it was
  pub push_played : (i k : ℕ) → k ≤ length L → played more i k ≡ played L i k
  push_played i k h = sum_same k (amounts more i) (amounts L i) (λ q l. ap (amount i) (push_slot q (omega arith)))

  pub push_played_all : (i : ℕ) → played more i (length more) ≡ played L i (length L) + amount i x
  push_played_all i = ap (played more i) push_length ∙ omega (arith, push_played i (length L) (omega arith), ap (amount i) push_last)

  push_slot_sum : (i : ℕ) → slot_sum more i ≡ slot_sum L i + amount i x * length L
  push_slot_sum i =
      let f : ℕ → ℕ = λ k. amounts more i k * k in
      let before = sum_same (length L) f (λ k. amounts L i k * k) (λ k l. ap (λ y. amount i y * k) (push_slot k l)) in
      ap (λ n. sum_to n f) push_length ∙ omega (arith, before, ap (λ y. amount i y * length L) push_last)

  pub push_busy : (ts : List Ticket) (v : ℕ → ℕ) → busy ts v more ≡ busy ts v L + sum_to (length ts) (λ i. v i * amount i x) * length L
  push_busy ts v =
      let n : ℕ = length ts in
      let each = sum_same n (λ i. v i * slot_sum more i) (λ i. v i * slot_sum L i + length L * (v i * amount i x)) (λ i l. omega (arith, ap (λ y. v i * y) (push_slot_sum i))) in
      omega (arith, each, sum_add n (λ i. v i * slot_sum L i) (λ i. length L * (v i * amount i x)), sum_times n (length L) (λ i. v i * amount i x))

  module _ (ts : List Ticket) (r v : ℕ → ℕ) where
    -- so what was chosen before is chosen still
    push_chosen : (k : ℕ) (y : Slot) → k ≤ length L → Chosen ts r v L k y → Chosen ts r v more k y
    push_chosen k y h = at y
      where
        back : (j : ℕ) → Waiting ts r more k j → Waiting ts r L k j
        back j w = record { known = w.known; released = w.released; unfinished = omega (arith, w.unfinished, push_played j k h) }

        at : (y : Slot) → Chosen ts r v L k y → Chosen ts r v more k y
        at idle c = λ j w. c j (back j w)
        at (playing i) c = (record { known = c.0.known; released = c.0.released; unfinished = omega (arith, c.0.unfinished, push_played i k h) }, λ j w. c.1 j (back j w))

    pub push_greedy : Greedy ts r v L → Chosen ts r v L (length L) x → Greedy ts r v more
    push_greedy g c k h = at (cases_eq k (length L))
      where
        at : (k ≡ length L) ⊎ (k ≡ length L → ⊥) → Chosen ts r v more k (slot more k)
        at (inl e) = subst (λ n. Chosen ts r v more n (slot more n)) (sym e) (rw push_last (push_chosen (length L) x (omega arith) c))
        at (inr o) =
            let l : k < length L = omega (arith, o, push_length) in
            rw (push_slot k l) (push_chosen k (slot L k) (omega arith) (g k l))
