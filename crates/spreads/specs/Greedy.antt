-- Greedy lines, and that they are least. Assumes nothing.
use Rattle.std.specs.Prelude.{ℕ, ◌*◌, ◌<◌, ◌≤◌, List, length}
use Rattle.tickets.specs.declared.ticket.Ticket.{Ticket}
use Rattle.spreads.specs.Lines.{sum_to, Slot, idle, playing, slot, played, slot_sum}
use Rattle.spreads.specs.Spreads.{ticket, Spread, value, price, release, LeastPrice}

-- at slot k ticket i is released, and the line has not played all of it before
pub record Waiting (ts : List Ticket) (r : ℕ → ℕ) (L : List Slot) (k i : ℕ) : Type 0 where
  pub known : i < length ts
  pub released : r i ≤ k
  pub unfinished : played L i k < (ticket ts i).length

-- slot k plays a waiting ticket of the greatest value, and is idle only where no ticket waits
abbrev pub Chosen : List Ticket → (ℕ → ℕ) → (ℕ → ℕ) → List Slot → ℕ → Slot → Type 0
Chosen ts r v L k idle = (j : ℕ) → Waiting ts r L k j → ⊥
Chosen ts r v L k (playing i) = Waiting ts r L k i × ((j : ℕ) → Waiting ts r L k j → v j ≤ v i)

-- each slot is chosen so, where ticket i is released at r i and has the value v i
abbrev pub Greedy : List Ticket → (ℕ → ℕ) → (ℕ → ℕ) → List Slot → Type 0
Greedy ts r v L = (k : ℕ) → k < length L → Chosen ts r v L k (slot L k)

-- value times slot, summed over the slots of the tickets
abbrev pub busy : List Ticket → (ℕ → ℕ) → List Slot → ℕ
busy ts v L = sum_to (length ts) (λ i. v i * slot_sum L i)

-- for any releases and values, no spread has a smaller sum than a greedy one
abbrev pub GreedyIsLeast : Type 0
GreedyIsLeast = (ts : List Ticket) (r v : ℕ → ℕ) (G L : List Slot) → Greedy ts r v G → Spread ts r G → Spread ts r L → busy ts v G ≤ busy ts v L

-- with the tickets' own values, the price of a greedy spread is the free price
abbrev pub GreedyPrice : Type 0
GreedyPrice = (ts : List Ticket) (rs : List ℕ) (G : List Slot) → Greedy ts (release rs) (value ts) G → Spread ts (release rs) G → LeastPrice ts rs (price ts G)
