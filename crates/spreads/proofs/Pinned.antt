-- A greedy spread with one ticket pinned is least. Assumes nothing.
use Rattle.std.proofs.Common.{◌≡◌, ℕ, suc, ◌+◌, ◌*◌, ◌<◌, ◌≤◌, ◌⊎◌, List, length, sym, refl, ap, ◌∙◌, inl, inr, arith}
use native.Mathlib.Decide.{le_ind}
use Rattle.std.proofs.lemmas.Bool.{cases_eq}
use Rattle.tickets.specs.declared.ticket.Ticket.{Ticket}
use Rattle.spreads.specs.Lines.{Slot, idle, playing, slot, amount, amounts, played, slot_sum}
use Rattle.spreads.specs.Spreads.{ticket, Allowed, Spread, value, release}
use Rattle.spreads.specs.Greedy.{Waiting, Chosen, Greedy, busy}
use Rattle.spreads.specs.Pinned.{put, PinnedSpread, PinnedAlone, PinnedPrice}
use Rattle.spreads.proofs.Slots.{amount_same}
use Rattle.spreads.proofs.Lines.{looser, played_early, price_is}
use Rattle.spreads.proofs.Greedy.{chosen_all, greedy_is_least}
use Rattle.spreads.proofs.Puts.{put_same, put_other, put_le, sum_put_times}
use Rattle.spreads.proofs.Unbroken.{unbroken_sum, unbroken_alone}

pub pinned_alone : PinnedAlone
pinned_alone ts r i t L known h = unbroken_alone ts (put r i 0) L h.spread i t known h.pinned

-- a pinned spread is a spread with i released at t
later : (ts : List Ticket) (r : ℕ → ℕ) (i t : ℕ) (L : List Slot) → i < length ts → PinnedSpread ts r i t L → Spread ts (put r i t) L
later ts r i t L known h = record { allowed = λ k l. at k (slot L k) refl (h.spread.allowed k l); full = h.spread.full }
  where
    at : (k : ℕ) (x : Slot) → slot L k ≡ x → Allowed ts (put r i 0) k x → Allowed ts (put r i t) k x
    at k idle e a = tt
    at k (playing j) e a = (a.0, by (cases_eq i j))
      where
        by : (i ≡ j) ⊎ (i ≡ j → ⊥) → put r i t j ≤ k
        by (inl q) = omega (arith, put_same r i t j q, (pinned_alone ts r i t L known h k (e ∙ ap playing (sym q))).0)
        by (inr o) = omega (arith, put_other r i t j o, put_other r i 0 j o, a.1)

-- where i is released at t, and has a value above all others, a greedy spread pins it
module _ (ts : List Ticket) (r v : ℕ → ℕ) (i t top : ℕ) (known : i < length ts) (above : (j : ℕ) → j < length ts → (i ≡ j → ⊥) → v j < top)
    (G : List Slot) (g : Greedy ts (put r i t) (put v i top) G) (s : Spread ts (put r i t) G) where
  -- from t on it plays at once, until it is finished
  at_once : (k : ℕ) → t ≤ k → played G i k < (ticket ts i).length → slot G k ≡ playing i
  at_once k after left = at (slot G k) (chosen_all ts (put r i t) (put v i top) G g s k)
    where
      waiting : Waiting ts (put r i t) G k i
      waiting = record { known = known; released = omega (arith, put_same r i t i refl); unfinished = left }

      it : (j : ℕ) → j < length ts → put v i top i ≤ put v i top j → (i ≡ j) ⊎ (i ≡ j → ⊥) → playing j ≡ playing i
      it j l h (inl e) = ap playing (sym e)
      it j l h (inr o) = absurd (omega (arith, h, put_same v i top i refl, put_other v i top j o, above j l o))

      at : (x : Slot) → Chosen ts (put r i t) (put v i top) G k x → x ≡ playing i
      at idle c = absurd (c i waiting)
      at (playing j) c = it j c.0.known (c.1 i waiting) (cases_eq i j)

  so_far : (k : ℕ) → t ≤ k → k ≤ t + (ticket ts i).length → played G i k + t ≡ k
  so_far =
      le_ind (λ k. k ≤ t + (ticket ts i).length → played G i k + t ≡ k)
      (λ _. omega (arith, played_early ts (put r i t) G s i t (omega (arith, put_same r i t i refl))))
      (λ k after before l. step k (before (omega arith)) (at_once k after (omega (arith, before (omega arith)))))
    where
      step : (k : ℕ) → played G i k + t ≡ k → slot G k ≡ playing i → played G i k + amounts G i k + t ≡ suc k
      step k b e = omega (arith, ap (amount i) e ∙ amount_same i i refl)

  pub greedy_pins : PinnedSpread ts r i t G
  greedy_pins = record {
    spread = looser ts (put r i t) (put r i 0) G (λ j l. put_le r r i 0 t j (omega arith) (λ o. omega arith)) s;
    pinned = λ k after before. at_once k after (omega (arith, so_far k after (omega arith)));
  }

  -- and it is least: the pinned ticket's slots are the same in every pinned spread, so its own value does not matter
  pub pinned_is_least : (L : List Slot) → PinnedSpread ts r i t L → busy ts v G ≤ busy ts v L
  pinned_is_least L h =
      let own = unbroken_sum ts (put r i 0) G greedy_pins.spread i t known greedy_pins.pinned in
      let same : slot_sum G i ≡ slot_sum L i = omega (arith, own, unbroken_sum ts (put r i 0) L h.spread i t known h.pinned) in
      let less = greedy_is_least ts (put r i t) (put v i top) G L g s (later ts r i t L known h) in
      omega (arith, less, sum_put_times (length ts) v (slot_sum G) i top known, sum_put_times (length ts) v (slot_sum L) i top known, ap (λ x. top * x) same, ap (λ x. v i * x) same)

pub pinned_price : PinnedPrice
pinned_price ts rs i t top G known above g s = record {
  met = (G, greedy_pins ts (release rs) (value ts) i t top known above G g s, refl);
  least = λ L h. omega (arith, price_is ts G, price_is ts L, pinned_is_least ts (release rs) (value ts) i t top known above G g s L h);
}
