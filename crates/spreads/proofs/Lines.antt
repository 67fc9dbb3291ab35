-- What a spread has played of each ticket, at any time. Assumes nothing.
use Rattle.std.proofs.Common.{◌≡◌, ℕ, ◌+◌, ◌*◌, ◌<◌, ◌≤◌, ◌⊎◌, List, length, refl, ap, ◌∙◌, inl, inr, le_trans, arith}
use Rattle.std.proofs.lemmas.List.{get_or_past}
use Rattle.std.proofs.lemmas.Bool.{cases_eq, cases_lt}
use Rattle.tickets.specs.declared.ticket.Ticket.{Ticket}
use Rattle.spreads.specs.Lines.{sum_to, Slot, idle, playing, slot, amount, amounts, played, slot_sum}
use Rattle.spreads.specs.Spreads.{ticket, Allowed, Spread, value, half, price}
use Rattle.spreads.specs.Greedy.{busy}
use Rattle.spreads.specs.Builder.{halves}
use Rattle.spreads.proofs.Sums.{sum_none, sum_add, sum_longer, sum_grows}
use Rattle.spreads.proofs.Slots.{amount_other}

-- past the end of a line nothing is played
pub past : (L : List Slot) (i k : ℕ) → length L ≤ k → amounts L i k ≡ 0
past L i k l = rw get_or_past refl

-- the sum of a ticket's slots may run past the end
pub slot_sum_to : (L : List Slot) (i t : ℕ) → length L ≤ t → sum_to t (λ k. amounts L i k * k) ≡ slot_sum L i
slot_sum_to L i t l = sum_longer (length L) t (λ k. amounts L i k * k) (λ k h. ap (λ x. x * k) (past L i k h) ∙ omega arith) l

module _ (ts : List Ticket) (r : ℕ → ℕ) (L : List Slot) (s : Spread ts r L) where
  pub allowed_all : (k : ℕ) → Allowed ts r k (slot L k)
  allowed_all k = at (cases_lt k (length L))
    where
      at : (k < length L) ⊎ (length L ≤ k) → Allowed ts r k (slot L k)
      at (inl l) = s.allowed k l
      at (inr l) = rw get_or_past tt

  -- past its end the line has played each ticket in full
  pub played_all : (i t : ℕ) → i < length ts → length L ≤ t → played L i t ≡ (ticket ts i).length
  played_all i t h l = sum_longer (length L) t (amounts L i) (past L i) l ∙ s.full i h

  pub played_le : (i t : ℕ) → i < length ts → played L i t ≤ (ticket ts i).length
  played_le i t h = at (cases_lt t (length L))
    where
      at : (t < length L) ⊎ (length L ≤ t) → played L i t ≤ (ticket ts i).length
      at (inl l) = omega (arith, sum_grows t (length L) (amounts L i) (omega arith), s.full i h)
      at (inr l) = omega (arith, played_all i t h l)

  -- and nothing of a ticket before its release
  pub played_early : (i t : ℕ) → t ≤ r i → played L i t ≡ 0
  played_early i t h = sum_none t (amounts L i) (λ k l. none k (slot L k) (allowed_all k) (omega arith))
    where
      other : (k j : ℕ) → r j ≤ k → k < r i → (i ≡ j) ⊎ (i ≡ j → ⊥) → amount i (playing j) ≡ 0
      other k j a b (inl e) = omega (arith, ap r e)
      other k j a b (inr o) = amount_other i j o

      none : (k : ℕ) (x : Slot) → Allowed ts r k x → k < r i → amount i x ≡ 0
      none k idle a b = refl
      none k (playing j) a b = other k j a.1 b (cases_eq i j)

-- a spread is one for lower releases
pub looser : (ts : List Ticket) (r r' : ℕ → ℕ) (L : List Slot) → ((j : ℕ) → j < length ts → r' j ≤ r j) → Spread ts r L → Spread ts r' L
looser ts r r' L h s = record { allowed = λ k l. at k (slot L k) (s.allowed k l); full = s.full }
  where
    at : (k : ℕ) (x : Slot) → Allowed ts r k x → Allowed ts r' k x
    at k idle a = tt
    at k (playing j) a = (a.0, le_trans (h j a.0) a.1)

pub price_is : (ts : List Ticket) (L : List Slot) → price ts L ≡ busy ts (value ts) L + halves ts
price_is ts L = sum_add (length ts) (λ i. value ts i * slot_sum L i) (half ts)
