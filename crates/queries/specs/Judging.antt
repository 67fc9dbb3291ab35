-- What a plan costs, and when it is refused. Assumes nothing.
use Rattle.std.specs.Prelude.{◌≡◌, ℕ, ◌<◌, Bool, true, false, List, length, Ok, Err, Result, slice_index}
use Rattle.tickets.specs.declared.ticket.Ticket.{Ticket}
use Rattle.tickets.specs.declared.planner_refusal.PlannerRefusal.{PlannerRefusal}
use Rattle.tickets.specs.declared.planner_refusal.PlannerRefusal.TheVariants.{NoSuchTicket, NoSuchStart, OnlyStart, CeilingNotLower, TooManyLevels, StaleToken, TooShort, PlanLength, Overlap as Overlapping, CostTooHigh, Hopeless}
use Rattle.tickets.specs.Planner.{number_of}
use Rattle.tickets.specs.Refusals.{Meaning, Answers, Clear}
use Rattle.spreads.specs.Plans.{Overlap, Apart, cost}
use Rattle.stores.specs.Sets.{Rows}

-- where a plan starts ticket i
abbrev pub starts : List ℕ → ℕ → ℕ
starts plan i = slice_index plan i

-- the answer tells whether P holds
abbrev pub Tells : Bool → Type 0 → Type 0
Tells true P = P
Tells false P = P → ⊥

-- every start of the plan is in its row
abbrev pub InRows : Rows → List ℕ → Type 0
InRows R plan = (i : ℕ) → i < length plan → R i (starts plan i) ≡ true

-- ticket i overlaps none of those before it
abbrev pub ApartBefore : List Ticket → (ℕ → ℕ) → ℕ → Type 0
ApartBefore ts s i = (j : ℕ) → j < i → Overlap ts s i j → ⊥

-- what is judged: a plan for the tickets, under a ceiling and in these rows
pub record Asked : Type 0 where
  pub tickets : List Ticket
  pub ceiling : ℕ
  pub rows : Rows
  pub plan : List ℕ

-- the plan has as many starts as there are tickets
abbrev pub Complete : Asked → Type 0
Complete a = length a.plan ≡ length a.tickets

-- a refusal that no plan meets
abbrev pub never : PlannerRefusal → Meaning Asked
never e = record { number = number_of e; meets = λ _. ⊥ }

-- each refusal: its number, and what meets it. A plan without the right length meets no lower number than 18
abbrev pub meaning : PlannerRefusal → Meaning Asked
meaning NoSuchTicket = never NoSuchTicket
meaning NoSuchStart = record { number = number_of NoSuchStart; meets = λ a. Complete a × (InRows a.rows a.plan → ⊥) }
meaning OnlyStart = never OnlyStart
meaning CeilingNotLower = never CeilingNotLower
meaning TooManyLevels = never TooManyLevels
meaning StaleToken = never StaleToken
meaning TooShort = never TooShort
meaning PlanLength = record { number = number_of PlanLength; meets = λ a. Complete a → ⊥ }
meaning Overlapping = record { number = number_of Overlapping; meets = λ a. Apart a.tickets (starts a.plan) → ⊥ }
meaning CostTooHigh = record { number = number_of CostTooHigh; meets = λ a. a.ceiling < cost a.tickets (starts a.plan) }
meaning Hopeless = never Hopeless

-- the answer to a plan: its cost, where nothing is refused, or the refusal
abbrev pub Judged : List Ticket → ℕ → Rows → List ℕ → Result ℕ PlannerRefusal → Type 0
Judged ts u R plan (Ok c) = Clear meaning (record { tickets = ts; ceiling = u; rows = R; plan = plan }) × (c ≡ cost ts (starts plan))
Judged ts u R plan (Err e) = Answers meaning (record { tickets = ts; ceiling = u; rows = R; plan = plan }) e
