-- Plans that are judged, and plans that are affordable. Assumes nothing.
use Rattle.std.proofs.Common.{◌≡◌, ℕ, ◌<◌, ◌≤◌, true, false, List, length, ⊎_elim, sym, subst, arith, Ok, Err, Result, IfOk}
use Rattle.tickets.specs.Collections.{posted}
use Rattle.std.proofs.lemmas.Bool.{cases_Bool, cases_lt, cases_eq, both_ways}
use Rattle.tickets.specs.declared.ticket.Ticket.{Ticket}
use Rattle.tickets.specs.declared.planner_refusal.PlannerRefusal.{PlannerRefusal}
use Rattle.tickets.specs.declared.planner_refusal.PlannerRefusal.TheVariants.{NoSuchTicket, NoSuchStart, OnlyStart, CeilingNotLower, TooManyLevels, StaleToken, TooShort, PlanLength, Overlap as Overlapping, CostTooHigh, Hopeless}
use Rattle.stores.specs.Sets.{Rows}
use Rattle.spreads.specs.Plans.{cost}
use Rattle.queries.specs.Judging.{starts, Judged}
use Rattle.runs.specs.Tables.{Affordable}
use Rattle.runs.specs.Supports.{setting}
use Rattle.runs.specs.Whole.{History, longer, Reached, told, Good}
use Rattle.runs.specs.declared.call.Call.TheVariants.{Prune}
use Rattle.runs.specs.declared.call.Taken.TheVariants.{Cut}
use Rattle.runs.proofs.Runs.{every_run}
use Rattle.planner.specs.declared.state.Planner.{Planner}
use Rattle.planner.specs.States.{setting_of, state_of}
use Rattle.planner.specs.Promise.{Pruned}
use Rattle.planner_tests.specs.Judging.{Afforded, AffordedByOrders, JudgedByOrders}

module _ (ts : List Ticket) (U : ℕ) (R : Rows) (plan : List ℕ) where
  -- a plan that is taken is affordable in the rows
  pub taken_affordable : (c : ℕ) → Judged ts U R plan (Ok c) → Affordable (setting ts) U R (starts plan)
  taken_affordable c (clear, _) = record { chosen = chosen; afforded = record { apart = λ i j l m n both. clear Overlapping (λ apart. apart i j l m n both); cheap = cheap } }
    where
      complete : length plan ≡ length ts
      complete = ⊎_elim (λ (h : length plan ≡ length ts). h) (λ (no : length plan ≡ length ts → ⊥). absurd (clear PlanLength no)) (cases_eq (length plan) (length ts))

      chosen : (i : ℕ) → i < length ts → R i (starts plan i) ≡ true
      chosen i l = ⊎_elim (λ (h : R i (starts plan i) ≡ true). h) (λ (h : R i (starts plan i) ≡ false). absurd (clear NoSuchStart (complete, λ held. both_ways _ h (held i (omega (arith, complete, l)))))) (cases_Bool (R i (starts plan i)))

      cheap : cost ts (starts plan) ≤ U
      cheap = ⊎_elim (λ (h : U < cost ts (starts plan)). absurd (clear CostTooHigh h)) (λ (h : cost ts (starts plan) ≤ U). h) (cases_lt U (cost ts (starts plan)))

  -- a complete plan that is refused is not affordable there
  pub refused_not : (e : PlannerRefusal) → Judged ts U R plan (Err e) → length plan ≡ length ts → Affordable (setting ts) U R (starts plan) → ⊥
  refused_not NoSuchTicket a complete h = a.meets
  refused_not NoSuchStart a complete h = a.meets.1 (λ i l. h.chosen i (omega (arith, complete, l)))
  refused_not OnlyStart a complete h = a.meets
  refused_not CeilingNotLower a complete h = a.meets
  refused_not TooManyLevels a complete h = a.meets
  refused_not StaleToken a complete h = a.meets
  refused_not TooShort a complete h = a.meets
  refused_not PlanLength a complete h = a.meets complete
  refused_not Overlapping a complete h = a.meets h.afforded.apart
  refused_not CostTooHigh a complete h = omega (arith, a.meets, h.afforded.cheap)
  refused_not Hopeless a complete h = a.meets

module _ {S : Type 0} (rows : S → Rows) (p : Planner S) (plan : List ℕ) where
  good : (h : History) → Reached (setting_of p) h (state_of rows p) → Good (setting_of p) (told h) (state_of rows p)
  good h led = (every_run (posted p.collection)).good h (state_of rows p) led

  -- what is judged by the standing rows is so by the orders' table
  pub judged : (r : Result ℕ PlannerRefusal) → Judged (posted p.collection) p.ceiling (rows p.store) plan r → JudgedByOrders rows p plan r
  judged (Ok c) j = (
    j.1,
    λ h led. ((good h led).plans (starts plan)).0 (subst (λ U. Affordable (setting_of p) U (rows p.store) (starts plan)) (good h led).ceiling (taken_affordable _ _ _ plan c j)),
  )
  judged (Err e) j = λ h led complete afforded.
      refused_not _ _ _ plan e j complete
      (subst (λ U. Affordable (setting_of p) U (rows p.store) (starts plan)) (sym (good h led).ceiling) (((good h led).plans (starts plan)).1 afforded))

  -- the orders are those before a prune
  pub judged_after :
      (q : Planner S) (old new : List ℕ) (k : ℕ) (r : Result ℕ PlannerRefusal) → Pruned rows p old (Ok k) q new → JudgedByOrders rows q plan r →
      IfOk r (λ c. (c ≡ cost (posted p.collection) (starts plan)) × AffordedByOrders rows p plan)
  judged_after q old new k (Ok c) prune j = (
    subst (λ d. c ≡ cost (posted d) (starts plan)) prune.moved.collection j.0,
    λ h led.
        subst (λ d. Afforded (setting (posted d)) (told h) (starts plan)) prune.moved.collection
        (j.1 (longer h (Prune (length old)) (Ok (Cut k))) (prune.moved.onward h led).reached),
  )
  judged_after q old new k (Err e) prune j = tt
