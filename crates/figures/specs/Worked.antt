-- Worked days: what pruning leaves, the floors, and the answers to plans. Assumes nothing.
use Rattle.std.specs.Prelude.{ℕ, ◌&&◌, List, [], ◌∷◌, length, Ok, Err, nat_le, nat_lt, slice_index_or}
use Rattle.tickets.specs.declared.ticket.Ticket.{Ticket}
use Rattle.tickets.specs.declared.planner_refusal.PlannerRefusal.TheVariants.{Overlap, CostTooHigh}
use Rattle.spreads.specs.Figures.{new_ticket, day_one, day_two, twins, latest}
use Rattle.runs.specs.Tables.{Table, posted, NoneWithin, Largest}
use Rattle.runs.specs.Supports.{setting}
use Rattle.queries.specs.Judging.{Judged}
use Rattle.queries.specs.TablePrices.{FloorAnswer}

-- the first and the last start of each row
abbrev pub Ends : Type 0
Ends = List (ℕ × ℕ)

-- the table with all starts between the ends of each row; rows past the last are empty
abbrev pub table : Ends → Table
table rows i t = nat_lt i (length rows) && (nat_le (slice_index_or rows i (0, 0)).0 t && nat_le t (slice_index_or rows i (0, 0)).1)

-- the rows of the tickets as they are posted
abbrev pub whole : List Ticket → Table
whole ts = posted (setting ts)

-- the tickets of day one: f, l, p and w are 0, 10, 5, 10; 4, 8, 2, 10; 5, 9, 4, 12; 13, 15, 2, 8
abbrev pub one : List Ticket
one = day_one.tickets

-- what pruning leaves of day one at the ceiling 372
abbrev pub one_left : Ends
one_left = (0, 0) ∷ (4, 5) ∷ (5, 7) ∷ (13, 14) ∷ []

-- the tickets of day two: 0, 4, 4, 1; 1, 3, 1, 3
abbrev pub two : List Ticket
two = day_two.tickets

-- what pruning leaves of day two at the ceiling 14
abbrev pub two_left : Ends
two_left = (2, 4) ∷ (1, 1) ∷ []

-- day two, posted in the other order, and what is left of it
abbrev pub swapped : List Ticket
swapped = new_ticket 1 3 1 3 tt tt tt tt ∷ new_ticket 0 4 4 1 tt tt tt tt ∷ []

abbrev pub swapped_left : Ends
swapped_left = (1, 1) ∷ (2, 4) ∷ []

-- two tickets that overlap in every plan: twice 0, 0, 1, 1
abbrev pub both : List Ticket
both = twins.tickets

-- a ticket with every start and no weight
abbrev pub weightless : List Ticket
weightless = new_ticket 0 255 16 0 tt tt tt tt ∷ []

-- one ticket at its limits: 255, 255, 16, 1000
abbrev pub last : List Ticket
last = latest.tickets

-- the worked days
pub record WorkedDays : Type 0 where
  -- day one at 372: what is left, and the floor of it and of the posted rows
  pub one_pruned : Largest (setting one) 372 (whole one) (table one_left)
  pub one_floor : FloorAnswer one (whole one) 362
  pub one_floor_left : FloorAnswer one (table one_left) 362
  -- at 371 it is hopeless
  pub one_hopeless : NoneWithin (setting one) 371 (whole one)
  -- plan 0, 5, 7, 13 costs 372, as posted and in what is left; at 371 it is too dear. In plan 0, 4, 7, 13 the tickets 0 and 1 overlap
  pub plan_taken : Judged one 372 (whole one) (0 ∷ 5 ∷ 7 ∷ 13 ∷ []) (Ok 372)
  pub plan_taken_left : Judged one 372 (table one_left) (0 ∷ 5 ∷ 7 ∷ 13 ∷ []) (Ok 372)
  pub plan_dear : Judged one 371 (whole one) (0 ∷ 5 ∷ 7 ∷ 13 ∷ []) (Err CostTooHigh)
  pub plan_overlaps : Judged one 372 (whole one) (0 ∷ 4 ∷ 7 ∷ 13 ∷ []) (Err Overlap)
  -- day two at 14, where one round is not enough: what is left, and the floors
  pub two_pruned : Largest (setting two) 14 (whole two) (table two_left)
  pub two_floor : FloorAnswer two (whole two) 11
  pub two_floor_left : FloorAnswer two (table two_left) 12
  -- in the other order the same rows are left
  pub swapped_pruned : Largest (setting swapped) 14 (whole swapped) (table swapped_left)
  -- two tickets that no plan has apart, at 3: nothing is cut
  pub both_pruned : Largest (setting both) 3 (whole both) (whole both)
  pub both_floor : FloorAnswer both (whole both) 3
  -- no weight, at 0: no start of 256 is cut
  pub weightless_pruned : Largest (setting weightless) 0 (whole weightless) (whole weightless)
  pub weightless_floor : FloorAnswer weightless (whole weightless) 0
  -- the latest start, the greatest length and the greatest weight: nothing is cut at 271,000, and one less is hopeless
  pub latest_pruned : Largest (setting last) 271000 (whole last) (whole last)
  pub latest_floor : FloorAnswer last (whole last) 271000
  pub latest_hopeless : NoneWithin (setting last) 270999 (whole last)
  -- no tickets: nothing is cut at any ceiling
  pub none_pruned : (U : ℕ) → Largest (setting []) U (whole []) (whole [])
  pub none_floor : FloorAnswer [] (whole []) 0
