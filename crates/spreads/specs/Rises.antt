-- Prices do not fall when releases rise. Assumes nothing.
use Rattle.std.specs.Prelude.{ℕ, ◌<◌, ◌≤◌, List, length, ◌≢◌}
use Rattle.tickets.specs.declared.ticket.Ticket.{Ticket}
use Rattle.spreads.specs.Spreads.{release, LeastPrice}
use Rattle.spreads.specs.Pinned.{LeastPinned}

-- the free price, where each ticket is released no earlier
abbrev pub FreeRises : Type 0
FreeRises =
    (ts : List Ticket) (rs rs' : List ℕ) (c c' : ℕ) → ((j : ℕ) → j < length ts → release rs j ≤ release rs' j) →
    LeastPrice ts rs c → LeastPrice ts rs' c' → c ≤ c'

-- the pinned price of i, where each other ticket is released no earlier
abbrev pub PinnedRises : Type 0
PinnedRises =
    (ts : List Ticket) (rs rs' : List ℕ) (i t c c' : ℕ) → ((j : ℕ) → j < length ts → (i ≢ j) → release rs j ≤ release rs' j) →
    LeastPinned ts rs i t c → LeastPinned ts rs' i t c' → c ≤ c'
