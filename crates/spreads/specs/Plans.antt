-- Plans, their cost, and the spreads that they are. Assumes nothing.
use Rattle.std.specs.Prelude.{◌≡◌, ℕ, ◌+◌, ◌*◌, ◌<◌, ◌≤◌, List, length, ◌≢◌}
use Rattle.tickets.specs.declared.ticket.Ticket.{Ticket}
use Rattle.spreads.specs.Lines.{sum_to, Slot}
use Rattle.spreads.specs.Spreads.{ticket, Spread, price, release, LeastPrice}
use Rattle.spreads.specs.Pinned.{Unbroken, LeastPinned}

-- some slot belongs to both i and j, where ticket i starts at s i
abbrev pub Overlap : List Ticket → (ℕ → ℕ) → ℕ → ℕ → Type 0
Overlap ts s i j = (s i < s j + (ticket ts j).length) × (s j < s i + (ticket ts i).length)

-- no two tickets overlap
abbrev pub Apart : List Ticket → (ℕ → ℕ) → Type 0
Apart ts s = (i j : ℕ) → i < length ts → j < length ts → (i ≢ j) → Overlap ts s i j → ⊥

-- the cost of a plan: weight times end, summed over the tickets
abbrev pub cost : List Ticket → (ℕ → ℕ) → ℕ
cost ts s = sum_to (length ts) (λ i. (ticket ts i).weight * (s i + (ticket ts i).length))

-- the line plays each ticket from its start on without a break
abbrev pub PlaysPlan : List Ticket → (ℕ → ℕ) → List Slot → Type 0
PlaysPlan ts s L = (i : ℕ) → i < length ts → Unbroken ts i (s i) L

-- the price of a spread without breaks
abbrev pub UnbrokenPrice : Type 0
UnbrokenPrice = (ts : List Ticket) (r s : ℕ → ℕ) (L : List Slot) → Spread ts r L → PlaysPlan ts s L → price ts L ≡ 720720 * cost ts s

-- a plan without overlaps, whose starts are not before the releases, is a spread
abbrev pub PlanIsSpread : Type 0
PlanIsSpread =
    (ts : List Ticket) (r s : ℕ → ℕ) → Apart ts s → ((i : ℕ) → i < length ts → r i ≤ s i) →
    (L : List Slot) × Spread ts r L × PlaysPlan ts s L × (price ts L ≡ 720720 * cost ts s)

-- so the free price, and for each ticket the pinned price at its own start, is at most the cost of the plan
abbrev pub PlanBounds : Type 0
PlanBounds =
    (ts : List Ticket) (rs : List ℕ) (s : ℕ → ℕ) → Apart ts s → ((i : ℕ) → i < length ts → release rs i ≤ s i) →
    ((c : ℕ) → LeastPrice ts rs c → c ≤ 720720 * cost ts s) ×
    ((i c : ℕ) → i < length ts → LeastPinned ts rs i (s i) c → c ≤ 720720 * cost ts s)
