-- The releases of a table, and what the calls for its prices answer. Assumes nothing.
use Rattle.std.specs.Prelude.{◌≡◌, ℕ, ◌<◌, ◌≤◌, ◌⊎◌, List, length, Some, None, Ok, Err, Option, Result}
use Rattle.tickets.specs.declared.ticket.Ticket.{Ticket}
use Rattle.tickets.specs.declared.planner_refusal.PlannerRefusal.{PlannerRefusal}
use Rattle.tickets.specs.Refusals.{Answers, Clear}
use Rattle.spreads.specs.Spreads.{release, LeastPrice}
use Rattle.spreads.specs.Pinned.{LeastPinned}
use Rattle.pricing.specs.Prices.{meaning, Floor}
use Rattle.stores.specs.Sets.{Rows, Earliest, First}

-- rs has the first starts of the rows 0 to n - 1, and 0 for the other numbers up to 23
pub record FirstStarts (R : Rows) (n : ℕ) (rs : List ℕ) : Type 0 where
  pub places : length rs ≡ 24
  pub here : (i : ℕ) → i < n → Earliest (R i) 0 (release rs i)
  pub past : (i : ℕ) → n ≤ i → release rs i ≡ 0

-- the releases of a table: the first start of each ticket's row
abbrev pub ReleasesOf : List Ticket → Rows → List ℕ → Type 0
ReleasesOf ts R rs = FirstStarts R (length ts) rs

-- the row of some ticket is empty
abbrev pub SomeEmpty : List Ticket → Rows → Type 0
SomeEmpty ts R = (i : ℕ) × (i < length ts) × First (R i) 0 None

-- the answer is the releases; nothing, where some ticket's row is empty
abbrev pub Released : List Ticket → Rows → Option (List ℕ) → Type 0
Released ts R (Some rs) = ReleasesOf ts R rs
Released ts R None = SomeEmpty ts R

-- the answer is the free price with the releases; nothing, where some ticket's row is empty
abbrev pub FreeAnswer : List Ticket → Rows → Option ℕ → Type 0
FreeAnswer ts R (Some c) = (rs : List ℕ) × ReleasesOf ts R rs × LeastPrice ts rs c
FreeAnswer ts R None = SomeEmpty ts R

-- the same of the pinned price of ticket i at t
abbrev pub PinnedPrice : List Ticket → Rows → ℕ → ℕ → Option ℕ → Type 0
PinnedPrice ts R i t (Some c) = (rs : List ℕ) × ReleasesOf ts R rs × LeastPinned ts rs i t c
PinnedPrice ts R i t None = SomeEmpty ts R

-- that answer, where nothing is refused, or the refusal
abbrev pub PinnedAnswer : List Ticket → Rows → ℕ → ℕ → Result (Option ℕ) PlannerRefusal → Type 0
PinnedAnswer ts R i t (Ok p) = Clear meaning (record { tickets = ts; ticket = i; start = t }) × PinnedPrice ts R i t p
PinnedAnswer ts R i t (Err e) = Answers meaning (record { tickets = ts; ticket = i; start = t }) e

-- f is the floor with the releases; 0, where some ticket's row is empty
abbrev pub FloorAnswer : List Ticket → Rows → ℕ → Type 0
FloorAnswer ts R f = (SomeEmpty ts R × (f ≡ 0)) ⊎ ((rs : List ℕ) × ReleasesOf ts R rs × Floor ts rs f)
