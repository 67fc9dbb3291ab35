-- The numbers of a planner's refusals. Assumes nothing.
use Rattle.std.specs.Prelude.{ℕ}
use Rattle.tickets.specs.declared.planner_refusal.PlannerRefusal.{PlannerRefusal}
use Rattle.tickets.specs.declared.planner_refusal.PlannerRefusal.TheVariants.{NoSuchTicket, NoSuchStart, OnlyStart, CeilingNotLower, TooManyLevels, StaleToken, TooShort, PlanLength, Overlap, CostTooHigh, Hopeless}

-- the number of each refusal; which calls meet it, the definitions of those calls say
abbrev pub number_of : PlannerRefusal → ℕ
number_of NoSuchTicket = 11
number_of NoSuchStart = 12
number_of OnlyStart = 13
number_of CeilingNotLower = 14
number_of TooManyLevels = 15
number_of StaleToken = 16
number_of TooShort = 17
number_of PlanLength = 18
number_of Overlap = 19
number_of CostTooHigh = 20
number_of Hopeless = 21
