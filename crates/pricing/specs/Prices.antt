-- What the calls for prices answer. Assumes nothing.
use Rattle.std.specs.Prelude.{ℕ, ◌+◌, ◌-◌, ◌*◌, ◌<◌, ◌≤◌, List, ◌++◌, map, length, replicate, Ok, Err, Result}
use Rattle.std.specs.List.{slice_get}
use Rattle.std.specs.Option.{option_map_or}
use Rattle.tickets.specs.declared.ticket.Ticket.{Ticket}
use Rattle.tickets.specs.declared.planner_refusal.PlannerRefusal.{PlannerRefusal}
use Rattle.tickets.specs.declared.planner_refusal.PlannerRefusal.TheVariants.{NoSuchTicket, NoSuchStart, OnlyStart, CeilingNotLower, TooManyLevels, StaleToken, TooShort, PlanLength, Overlap, CostTooHigh, Hopeless}
use Rattle.tickets.specs.Planner.{number_of}
use Rattle.tickets.specs.Refusals.{Meaning, Answers, Clear}
use Rattle.spreads.specs.Spreads.{LeastPrice}
use Rattle.spreads.specs.Pinned.{LeastPinned}

-- what is asked: the pinned price of a ticket at a start
pub record Asked : Type 0 where
  pub tickets : List Ticket
  pub ticket : ℕ
  pub start : ℕ

-- a refusal that no pinned price answers
abbrev pub never : PlannerRefusal → Meaning Asked
never e = record { number = number_of e; meets = λ _. ⊥ }

-- each refusal: its number, and what meets it
abbrev pub meaning : PlannerRefusal → Meaning Asked
meaning NoSuchTicket = record { number = number_of NoSuchTicket; meets = λ a. length a.tickets ≤ a.ticket }
meaning NoSuchStart = record { number = number_of NoSuchStart; meets = λ a. 255 < a.start }
meaning OnlyStart = never OnlyStart
meaning CeilingNotLower = never CeilingNotLower
meaning TooManyLevels = never TooManyLevels
meaning StaleToken = never StaleToken
meaning TooShort = never TooShort
meaning PlanLength = never PlanLength
meaning Overlap = never Overlap
meaning CostTooHigh = never CostTooHigh
meaning Hopeless = never Hopeless

-- the answer for ticket i at t: the pinned price, where nothing is refused, or the refusal
abbrev pub PinnedAnswer : List Ticket → List ℕ → ℕ → ℕ → Result ℕ PlannerRefusal → Type 0
PinnedAnswer ts rs i t (Ok c) = Clear meaning (record { tickets = ts; ticket = i; start = t }) × LeastPinned ts rs i t c
PinnedAnswer ts rs i t (Err e) = Answers meaning (record { tickets = ts; ticket = i; start = t }) e

-- f is the free price divided by 720720, rounded up
abbrev pub Floor : List Ticket → List ℕ → ℕ → Type 0
Floor ts rs f = (c : ℕ) × LeastPrice ts rs c × (c ≤ 720720 * f) × (720720 * f < c + 720720)

-- the first start of ticket i, and 0 where no ticket has the number
abbrev pub start_of : List Ticket → ℕ → ℕ
start_of ts i = option_map_or (λ x. x.first) (slice_get ts i) 0

-- the first start of each ticket, and 0 for the numbers up to 23 that no ticket has
abbrev pub first_starts : List Ticket → List ℕ
first_starts ts = map (λ x. x.first) ts ++ replicate (24 - length ts) 0
