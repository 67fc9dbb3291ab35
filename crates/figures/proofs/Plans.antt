-- The answer to a plan, computed. Assumes nothing.
use Rattle.std.proofs.Common.{◌≡◌, ℕ, ◌+◌, ◌<◌, ◌≤◌, Bool, true, ◌||◌, eqb, leb, List, length, Ok, Err, refl, ⊎_elim, arith}
use Rattle.std.proofs.lemmas.Bool.{or_cases, eqb-true, leb-true}
use Rattle.tickets.specs.declared.ticket.Ticket.{Ticket}
use Rattle.tickets.specs.declared.planner_refusal.PlannerRefusal.{PlannerRefusal}
use Rattle.tickets.specs.declared.planner_refusal.PlannerRefusal.TheVariants.{NoSuchTicket, NoSuchStart, OnlyStart, CeilingNotLower, TooManyLevels, StaleToken, TooShort, PlanLength, Overlap as Overlapping, CostTooHigh, Hopeless}
use Rattle.spreads.specs.Spreads.{ticket}
use Rattle.spreads.specs.Plans.{Overlap, Apart, cost}
use Rattle.stores.specs.Sets.{Rows}
use Rattle.queries.specs.Judging.{Asked, starts, meaning, Judged}
use Rattle.figures.proofs.Ranges.{all_from, passes_below}

module _ (ts : List Ticket) (R : Rows) (plan : List ℕ) where
  -- each start is in its row
  abbrev pub in_rows : Bool
  in_rows = all_from 0 (length plan) (λ i. R i (starts plan i))

  -- ticket j ends before i begins
  abbrev before : ℕ → ℕ → Bool
  before j i = leb (starts plan j + (ticket ts j).length) (starts plan i)

  -- no two tickets overlap
  abbrev pub all_apart : Bool
  all_apart = all_from 0 (length ts) (λ i. all_from 0 (length ts) (λ j. eqb i j || (before j i || before i j)))

  apart : all_apart ≡ true → Apart ts (starts plan)
  apart e i j l m ne both =
      let row = passes_below (length ts) (λ i. all_from 0 (length ts) (λ j. eqb i j || (before j i || before i j))) e i l in
      let each = passes_below (length ts) (λ j. eqb i j || (before j i || before i j)) row j m in
      ⊎_elim
      (λ (s : eqb i j ≡ true). ne (eqb-true i j s))
      (λ (o : (before j i || before i j) ≡ true).
      ⊎_elim
      (λ (p : before j i ≡ true). omega (arith, leb-true (starts plan j + (ticket ts j).length) (starts plan i) p, both.0))
      (λ (p : before i j ≡ true). omega (arith, leb-true (starts plan i + (ticket ts i).length) (starts plan j) p, both.1))
      (or_cases (before j i) (before i j) o))
      (or_cases (eqb i j) (before j i || before i j) each)

  module _ (u : ℕ) (n : length plan ≡ length ts) (held : in_rows ≡ true) where
    abbrev asked : Asked
    asked = record { tickets = ts; ceiling = u; rows = R; plan = plan }

    -- a plan of the right length with its starts in their rows can meet only 19 and 20
    unmet :
        (e : PlannerRefusal) → ((meaning e).number ≡ 19 → Apart ts (starts plan)) → ((meaning e).number ≡ 20 → cost ts (starts plan) ≤ u) →
        (meaning e).meets asked → ⊥
    unmet NoSuchTicket a c h = h
    unmet NoSuchStart a c h = h.1 (passes_below (length plan) (λ i. R i (starts plan i)) held)
    unmet OnlyStart a c h = h
    unmet CeilingNotLower a c h = h
    unmet TooManyLevels a c h = h
    unmet StaleToken a c h = h
    unmet TooShort a c h = h
    unmet PlanLength a c h = h n
    unmet Overlapping a c h = h (a refl)
    unmet CostTooHigh a c h = omega (arith, c refl)
    unmet Hopeless a c h = h

    pub taken : all_apart ≡ true → cost ts (starts plan) ≤ u → Judged ts u R plan (Ok (cost ts (starts plan)))
    taken a c = (λ e. unmet e (λ _. apart a) (λ _. c), refl)

    pub dear : all_apart ≡ true → u < cost ts (starts plan) → Judged ts u R plan (Err CostTooHigh)
    dear a d = record { meets = d; first = λ e l. unmet e (λ _. apart a) (λ s. omega arith) }

    pub overlapping :
        (i j : ℕ) → i < length ts → j < length ts → (i ≡ j → ⊥) → Overlap ts (starts plan) i j → Judged ts u R plan (Err Overlapping)
    overlapping i j l m ne both = record { meets = λ a. a i j l m ne both; first = λ e k. unmet e (λ s. absurd (omega arith)) (λ s. omega arith) }
