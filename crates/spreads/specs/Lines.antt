-- Slots, lines of slots, and what a ticket has of a line. Assumes nothing.
use Rattle.std.specs.Prelude.{ℕ, zero, suc, ◌+◌, ◌*◌, cond, List, length, ◌==◌, slice_index_or}

-- f 0 + f 1 + .. + f (n - 1)
abbrev pub sum_to : ℕ → (ℕ → ℕ) → ℕ
sum_to zero f = 0
sum_to (suc n) f = sum_to n f + f n

-- what a slot has: nothing, or the ticket with this number
pub data Slot : Type 0 where
  idle : Slot
  playing : ℕ → Slot

-- slot k of a line; past its end a line is idle
abbrev pub slot : List Slot → ℕ → Slot
slot L k = slice_index_or L k idle

-- how much of ticket i a slot plays: 1 or 0
abbrev pub amount : ℕ → Slot → ℕ
amount i idle = 0
amount i (playing j) = cond (i == j) 1 0

-- how much of ticket i slot k of a line plays
abbrev pub amounts : List Slot → ℕ → ℕ → ℕ
amounts L i k = amount i (slot L k)

-- how many of the first t slots play ticket i
abbrev pub played : List Slot → ℕ → ℕ → ℕ
played L i t = sum_to t (amounts L i)

-- the sum of the slots that play ticket i
abbrev pub slot_sum : List Slot → ℕ → ℕ
slot_sum L i = sum_to (length L) (λ k. amounts L i k * k)
