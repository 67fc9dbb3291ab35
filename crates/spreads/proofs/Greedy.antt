-- A greedy spread is least. Assumes nothing.
use Rattle.std.proofs.Common.{◌≡◌, ℕ, suc, ◌+◌, ◌*◌, ◌<◌, ◌≤◌, Bool, true, cond, ltb, ◌⊎◌, List, length, sym, refl, ap, ◌∙◌, inl, inr, arith}
use Rattle.std.proofs.lemmas.List.{get_or_past}
use Rattle.std.proofs.lemmas.Bool.{cases_lt, ltb-true, lt-ltb, cond_both}
use Rattle.tickets.specs.declared.ticket.Ticket.{Ticket}
use Rattle.spreads.specs.Lines.{sum_to, Slot, idle, playing, slot, amount, amounts, played, slot_sum}
use Rattle.spreads.specs.Domination.{given, members, Serves, weighted}
use Rattle.spreads.specs.Spreads.{ticket, Allowed, Spread, value, release}
use Rattle.spreads.specs.Greedy.{Waiting, Chosen, Greedy, busy, GreedyIsLeast, GreedyPrice}
use Rattle.spreads.proofs.Sums.{sum_same}
use Rattle.spreads.proofs.Ahead.{serving_is_least}
use Rattle.spreads.proofs.Slots.{pick, one_at_most}
use Rattle.spreads.proofs.Lines.{slot_sum_to, played_all, played_le, played_early, price_is}

-- the sum of a line may run past its end
pub busy_to : (ts : List Ticket) (v : ℕ → ℕ) (L : List Slot) (t : ℕ) → length L ≤ t → weighted (length ts) v (amounts L) t ≡ busy ts v L
busy_to ts v L t l = sum_same (length ts) (λ i. v i * sum_to t (λ k. amounts L i k * k)) (λ i. v i * slot_sum L i) (λ i h. ap (λ x. v i * x) (slot_sum_to L i t l))

-- a greedy line plays only what it may
pub greedy_allowed : (ts : List Ticket) (r v : ℕ → ℕ) (L : List Slot) → Greedy ts r v L → (k : ℕ) → k < length L → Allowed ts r k (slot L k)
greedy_allowed ts r v L g k l = at (slot L k) (g k l)
  where
    at : (x : Slot) → Chosen ts r v L k x → Allowed ts r k x
    at idle c = tt
    at (playing i) c = (c.0.known, c.0.released)

module _ (ts : List Ticket) (r v : ℕ → ℕ) (G : List Slot) (g : Greedy ts r v G) (s : Spread ts r G) where
  -- past the end of a greedy spread nothing waits
  pub chosen_all : (k : ℕ) → Chosen ts r v G k (slot G k)
  chosen_all k = at (cases_lt k (length G))
    where
      at : (k < length G) ⊎ (length G ≤ k) → Chosen ts r v G k (slot G k)
      at (inl l) = g k l
      at (inr l) = rw get_or_past (λ j w. omega (arith, w.unfinished, played_all ts r G s j k w.known l))

  module _ (L : List Slot) (u : Spread ts r L) (m k : ℕ) where
    -- the tickets of value above m
    abbrev above : ℕ → Bool
    above i = ltb m (v i)

    -- where none of them waits, each is not released yet, or played in full
    finished : ((j : ℕ) → Waiting ts r G k j → v j ≤ m) → (i : ℕ) → i < length ts → above i ≡ true → played L i (suc k) ≤ played G i (suc k)
    finished none i h e = at (cases_lt k (r i)) (cases_lt (played G i k) (ticket ts i).length)
      where
        at : (k < r i) ⊎ (r i ≤ k) → (played G i k < (ticket ts i).length) ⊎ ((ticket ts i).length ≤ played G i k) → played L i (suc k) ≤ played G i (suc k)
        at (inl early) c = omega (arith, played_early ts r L u i (suc k) early)
        at (inr there) (inl left) = absurd (omega (arith, none i (record { known = h; released = there; unfinished = left }), ltb-true m (v i) e))
        at (inr there) (inr done) = omega (arith, played_le ts r L u i (suc k) h)

    -- so a greedy line serves them first, compared with any spread: it plays one of them, or none of them waits
    serves : Serves (length ts) above (amounts G) (amounts L) k
    serves = at (slot G k) (chosen_all k)
      where
        n : ℕ
        n = length ts

        few : (i : ℕ) → members above i ≤ 1
        few i = cond_both {A = ℕ} (above i) 1 0 (λ x. x ≤ 1) (λ e. omega arith) (λ e. omega arith)

        at : (x : Slot) → Chosen ts r v G k x →
            (given n (members above) (amounts L) k ≤ sum_to n (λ i. members above i * amount i x)) ⊎ ((i : ℕ) → i < n → above i ≡ true → played L i (suc k) ≤ played G i (suc k))
        at idle c = inr (finished (λ j w. absurd (c j w)))
        at (playing j) c = by (cases_lt m (v j))
          where
            by : (m < v j) ⊎ (v j ≤ m) →
                (given n (members above) (amounts L) k ≤ sum_to n (λ i. members above i * amount i (playing j))) ⊎ ((i : ℕ) → i < n → above i ≡ true → played L i (suc k) ≤ played G i (suc k))
            by (inl high) = inl (omega (arith, one_at_most n (members above) few (slot L k), pick n (members above) j c.0.known, ap (λ b. cond {A = ℕ} b 1 0) (lt-ltb m (v j) high)))
            by (inr low) = inr (finished (λ i w. omega (arith, c.1 i w)))

pub greedy_is_least : GreedyIsLeast
greedy_is_least ts r v G L g s u =
    let t : ℕ = length G + length L in
    let less = serving_is_least (length ts) v (amounts G) (amounts L) t (λ m k l. serves ts r v G g s L u m k) (λ i h. played_all ts r G s i t h (omega arith) ∙ sym (played_all ts r L u i t h (omega arith))) in
    omega (arith, less, busy_to ts v G t (omega arith), busy_to ts v L t (omega arith))

pub greedy_price : GreedyPrice
greedy_price ts rs G g s = record {
  met = (G, s, refl);
  least = λ L u. omega (arith, price_is ts G, price_is ts L, greedy_is_least ts (release rs) (value ts) G L g s u);
}
