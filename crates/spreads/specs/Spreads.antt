-- What a spread of tickets is, its price, and the least price. Assumes nothing.
use Rattle.std.specs.Prelude.{◌≡◌, ℕ, ◌+◌, ◌*◌, ◌/◌, ◌<◌, ◌≤◌, List, length, slice_index, slice_index_or}
use Rattle.std.proofs.Common.{lit≤}
use Rattle.tickets.specs.declared.ticket.Ticket.{Ticket}
use Rattle.spreads.specs.Lines.{sum_to, Slot, idle, playing, slot, played, slot_sum}

-- what `ticket` answers for a number that no ticket has; nothing hangs on it
abbrev pub blank : Ticket
blank = record { first = 0; last = 0; length = 1; weight = 0; ordered = lit≤ tt; plays = lit≤ tt; short = lit≤ tt; light = lit≤ tt }

-- the ticket with the number i
abbrev pub ticket : List Ticket → ℕ → Ticket
ticket ts i = slice_index_or ts i blank

-- what slot k may have, where ticket i is released at r i: nothing, or one of the tickets, not before its release
abbrev pub Allowed : List Ticket → (ℕ → ℕ) → ℕ → Slot → Type 0
Allowed ts r k idle = Unit {0}
Allowed ts r k (playing i) = (i < length ts) × (r i ≤ k)

-- a line in which each ticket plays as many slots as its length, none before its release; that a slot plays one ticket at most is
-- in its type
pub record Spread (ts : List Ticket) (r : ℕ → ℕ) (L : List Slot) : Type 0 where
  pub allowed : (k : ℕ) → k < length L → Allowed ts r k (slot L k)
  pub full : (i : ℕ) → i < length ts → played L i (length L) ≡ (ticket ts i).length

-- w * (720720 / p) of ticket i: what its price rises by where one of its slots is one later
abbrev pub value : List Ticket → ℕ → ℕ
value ts i = (ticket ts i).weight * (720720 / (ticket ts i).length)

-- the half term of ticket i, which it adds to the price wherever it plays
abbrev pub half : List Ticket → ℕ → ℕ
half ts i = (ticket ts i).weight * ((ticket ts i).length + 1) * 360360

-- the price of a spread: for each ticket its value times the sum of its slots, and its half term
abbrev pub price : List Ticket → List Slot → ℕ
price ts L = sum_to (length ts) (λ i. value ts i * slot_sum L i + half ts i)

-- c is the least price of the lines that meet P: one of them has it, and none is cheaper
pub record Least (ts : List Ticket) (P : List Slot → Type 0) (c : ℕ) : Type 0 where
  pub met : (L : List Slot) × P L × (price ts L ≡ c)
  pub least : (L : List Slot) → P L → c ≤ price ts L

-- the release of ticket i
abbrev pub release : List ℕ → ℕ → ℕ
release rs i = slice_index rs i

-- c is the free price of the tickets with these releases: the least price of a spread
abbrev pub LeastPrice : List Ticket → List ℕ → ℕ → Type 0
LeastPrice ts rs c = Least ts (Spread ts (release rs)) c
