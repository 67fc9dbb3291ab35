-- The numbers of the causes, by which they are told. Assumes nothing.
use Rattle.std.proofs.Common.{◌≡◌, ℕ, ◌<◌, ◌≤◌, cond, eqb, sym, refl, ap, ◌∙◌, arith}
use Rattle.tickets.specs.Collections.{meaning}
use Rattle.tickets.specs.Planner.{number_of}
use Rattle.tickets.specs.declared.refusal.TicketRefusal.{TicketRefusal}
use Rattle.tickets.specs.declared.refusal.TicketRefusal.TheVariants.{OutsideLimits, TooManyTickets, CeilingTooHigh}
use Rattle.tickets.specs.declared.planner_refusal.PlannerRefusal.{PlannerRefusal}
use Rattle.tickets.specs.declared.planner_refusal.PlannerRefusal.TheVariants.{NoSuchTicket, NoSuchStart, OnlyStart, CeilingNotLower, TooManyLevels, StaleToken, TooShort, PlanLength, Overlap, CostTooHigh, Hopeless}
use Rattle.day.proofs.Gathering.{later as posting_later, apart as posting_apart}
use Rattle.planned.specs.Judging.{Cause, collecting, planning, judge}

-- the numbers of a collection come before those of a planner
pub low : (e : TicketRefusal) → (meaning e).number ≤ 10
low OutsideLimits = omega arith
low TooManyTickets = omega arith
low CeilingTooHigh = omega arith

pub high : (e : PlannerRefusal) → 11 ≤ number_of e
high NoSuchTicket = omega arith
high NoSuchStart = omega arith
high OnlyStart = omega arith
high CeilingNotLower = omega arith
high TooManyLevels = omega arith
high StaleToken = omega arith
high TooShort = omega arith
high PlanLength = omega arith
high Overlap = omega arith
high CostTooHigh = omega arith
high Hopeless = omega arith

by_number : ℕ → PlannerRefusal
by_number n =
    cond (eqb n 11) NoSuchTicket (cond (eqb n 12) NoSuchStart (cond (eqb n 13) OnlyStart (cond (eqb n 14) CeilingNotLower (cond (eqb n 15) TooManyLevels
    (cond (eqb n 16) StaleToken (cond (eqb n 17) TooShort (cond (eqb n 18) PlanLength (cond (eqb n 19) Overlap (cond (eqb n 20) CostTooHigh Hopeless)))))))))

back : (e : PlannerRefusal) → by_number (number_of e) ≡ e
unfolding by_number
back NoSuchTicket = refl
back NoSuchStart = refl
back OnlyStart = refl
back CeilingNotLower = refl
back TooManyLevels = refl
back StaleToken = refl
back TooShort = refl
back PlanLength = refl
back Overlap = refl
back CostTooHigh = refl
back Hopeless = refl

-- the numbers of the causes come after those of a file's form
pub later : (c : Cause) → 7 < (judge c).number
later (collecting e) = posting_later e
later (planning e) = omega (arith, high e)

-- no two causes share a number
pub apart : (c d : Cause) → (judge c).number ≡ (judge d).number → c ≡ d
apart (collecting d) (collecting e) h = ap collecting (posting_apart d e h)
apart (collecting d) (planning e) h = absurd (omega (arith, low d, high e))
apart (planning d) (collecting e) h = absurd (omega (arith, high d, low e))
apart (planning d) (planning e) h = ap planning (sym (back d) ∙ ap by_number h ∙ back e)
