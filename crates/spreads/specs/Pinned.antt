-- Spreads in which one ticket is pinned, and the least price of them. Assumes nothing.
use Rattle.std.specs.Prelude.{◌≡◌, ℕ, ◌+◌, ◌<◌, ◌≤◌, cond, List, length, ◌==◌, ◌≢◌}
use Rattle.tickets.specs.declared.ticket.Ticket.{Ticket}
use Rattle.spreads.specs.Lines.{Slot, playing, slot}
use Rattle.spreads.specs.Spreads.{ticket, Spread, value, price, Least, release}
use Rattle.spreads.specs.Greedy.{Greedy}

-- f, but x at i
abbrev pub put : (ℕ → ℕ) → ℕ → ℕ → ℕ → ℕ
put f i x j = cond (i == j) x (f j)

-- ticket i plays from slot t on without a break: in t to t + p - 1
abbrev pub Unbroken : List Ticket → ℕ → ℕ → List Slot → Type 0
Unbroken ts i t L = (k : ℕ) → t ≤ k → k < t + (ticket ts i).length → slot L k ≡ playing i

-- a spread in which ticket i has the slots t to t + p - 1, and so no others; its own release does not count
pub record PinnedSpread (ts : List Ticket) (r : ℕ → ℕ) (i t : ℕ) (L : List Slot) : Type 0 where
  pub spread : Spread ts (put r i 0) L
  pub pinned : Unbroken ts i t L

-- c is the pinned price of ticket i at t: the least price of such a spread
abbrev pub LeastPinned : List Ticket → List ℕ → ℕ → ℕ → ℕ → Type 0
LeastPinned ts rs i t c = Least ts (PinnedSpread ts (release rs) i t) c

-- a pinned ticket has no slots but those
abbrev pub PinnedAlone : Type 0
PinnedAlone =
    (ts : List Ticket) (r : ℕ → ℕ) (i t : ℕ) (L : List Slot) → i < length ts → PinnedSpread ts r i t L →
    (k : ℕ) → slot L k ≡ playing i → (t ≤ k) × (k < t + (ticket ts i).length)

-- with ticket i released at t, and of a value above every other ticket's, the price of a greedy spread is the pinned price
abbrev pub PinnedPrice : Type 0
PinnedPrice =
    (ts : List Ticket) (rs : List ℕ) (i t top : ℕ) (G : List Slot) → i < length ts → ((j : ℕ) → j < length ts → (i ≢ j) → value ts j < top) →
    Greedy ts (put (release rs) i t) (put (value ts) i top) G → Spread ts (put (release rs) i t) G → LeastPinned ts rs i t (price ts G)
