-- Lower releases leave more spreads, so no dearer a least one. Assumes nothing.
use Rattle.std.proofs.Common.{◌≡◌, ℕ, ◌<◌, ◌≤◌, List, length, arith}
use Rattle.tickets.specs.declared.ticket.Ticket.{Ticket}
use Rattle.spreads.specs.Lines.{Slot}
use Rattle.spreads.specs.Spreads.{Spread, Least, release}
use Rattle.spreads.specs.Pinned.{put, PinnedSpread}
use Rattle.spreads.specs.Rises.{FreeRises, PinnedRises}
use Rattle.spreads.proofs.Puts.{put_le}
use Rattle.spreads.proofs.Lines.{looser}

-- what is least among more is no more
pub least_among : (ts : List Ticket) (P Q : List Slot → Type 0) (c d : ℕ) → ((L : List Slot) → Q L → P L) → Least ts P c → Least ts Q d → c ≤ d
least_among ts P Q c d h x y = omega (arith, x.least y.met.0 (h y.met.0 y.met.1), y.met.2)

-- and there is no other
pub one_least : (ts : List Ticket) (P : List Slot → Type 0) (c d : ℕ) → Least ts P c → Least ts P d → d ≡ c
one_least ts P c d x y = omega (arith, least_among ts P P c d (λ L h. h) x y, least_among ts P P d c (λ L h. h) y x)

-- a pinned spread is one for lower releases of the others
pub looser_pinned : (ts : List Ticket) (r r' : ℕ → ℕ) (i t : ℕ) (L : List Slot) → ((j : ℕ) → j < length ts → (i ≡ j → ⊥) → r' j ≤ r j) → PinnedSpread ts r i t L → PinnedSpread ts r' i t L
looser_pinned ts r r' i t L h s = record {
  spread = looser ts (put r i 0) (put r' i 0) L (λ j l. put_le r' r i 0 0 j (omega arith) (h j l)) s.spread;
  pinned = s.pinned;
}

pub free_rises : FreeRises
free_rises ts rs rs' c c' h = least_among ts (Spread ts (release rs)) (Spread ts (release rs')) c c' (λ L. looser ts (release rs') (release rs) L h)

pub pinned_rises : PinnedRises
pinned_rises ts rs rs' i t c c' h =
    least_among ts (PinnedSpread ts (release rs) i t) (PinnedSpread ts (release rs') i t) c c' (λ L. looser_pinned ts (release rs') (release rs) i t L h)
