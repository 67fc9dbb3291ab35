-- Each price is there, and there is one. Assumes nothing.
use Rattle.std.specs.Prelude.{◌≡◌, ℕ, ◌<◌, List, [], length}
use Rattle.tickets.specs.declared.ticket.Ticket.{Ticket}
use Rattle.spreads.specs.Spreads.{LeastPrice}
use Rattle.spreads.specs.Pinned.{LeastPinned}

-- P holds of one number
abbrev pub JustOne : (ℕ → Type 0) → Type 0
JustOne P = (c : ℕ) × P c × ((d : ℕ) → P d → d ≡ c)

-- any tickets with any releases have one free price
abbrev pub FreeExists : Type 0
FreeExists = (ts : List Ticket) (rs : List ℕ) → JustOne (LeastPrice ts rs)

-- each ticket has one pinned price at each slot
abbrev pub PinnedExists : Type 0
PinnedExists = (ts : List Ticket) (rs : List ℕ) (i t : ℕ) → i < length ts → JustOne (LeastPinned ts rs i t)

-- with no tickets the free price is 0
abbrev pub NoneFree : Type 0
NoneFree = (rs : List ℕ) → LeastPrice [] rs 0
