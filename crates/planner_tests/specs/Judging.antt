-- Plans judged by the orders. Assumes nothing.
use Rattle.std.specs.Prelude.{◌≡◌, ℕ, List, length, Ok, Err, Result}
use Rattle.tickets.specs.Collections.{posted}
use Rattle.tickets.specs.declared.planner_refusal.PlannerRefusal.{PlannerRefusal}
use Rattle.stores.specs.Sets.{Rows}
use Rattle.spreads.specs.Plans.{cost}
use Rattle.queries.specs.Judging.{starts, Judged}
use Rattle.runs.specs.Tables.{Plan, Setting, Affordable}
use Rattle.runs.specs.Ledger.{Ledger, orders_table}
use Rattle.runs.specs.Whole.{History, Reached, told}
use Rattle.planner.specs.declared.state.Planner.{Planner}
use Rattle.planner.specs.States.{setting_of, state_of}
use Rattle.planner.specs.Promise.{Pruned}

-- the plan is affordable in the orders' table
abbrev pub Afforded : Setting → Ledger → Plan → Type 0
Afforded w L s = Affordable w L.ceiling (orders_table w L) s

-- so after every history that leads to p
abbrev pub AffordedByOrders : {S : Type 0} → (S → Rows) → Planner S → List ℕ → Type 0
AffordedByOrders rows p plan = (h : History) → Reached (setting_of p) h (state_of rows p) → Afforded (setting_of p) (told h) (starts plan)

-- the plan is taken, with its cost, and the orders' table affords it after every history that leads to p; or it is refused, and has
-- not a start for each ticket or is not affordable there
abbrev pub JudgedByOrders : {S : Type 0} → (S → Rows) → Planner S → List ℕ → Result ℕ PlannerRefusal → Type 0
JudgedByOrders rows p plan (Ok c) = (c ≡ cost (posted p.collection) (starts plan)) × AffordedByOrders rows p plan
JudgedByOrders rows p plan (Err e) =
    (h : History) → Reached (setting_of p) h (state_of rows p) → length plan ≡ length (posted p.collection) → Afforded (setting_of p) (told h) (starts plan) → ⊥

-- where the prune was taken, r is what the judge answers of the rows and the ceiling of q; where it was refused, r is its refusal
abbrev pub JudgedAfter : {S : Type 0} → (S → Rows) → Planner S → List ℕ → Result ℕ PlannerRefusal → Result ℕ PlannerRefusal → Type 0
JudgedAfter rows q plan (Ok k) r = Judged (posted q.collection) q.ceiling (rows q.store) plan r
JudgedAfter rows q plan (Err e) r = r ≡ Err e

-- p was pruned, lent the list `old`, which left q and the list `new`, and then the plan was judged
pub record PrunedAndJudged {S : Type 0} (rows : S → Rows) (p : Planner S) (old plan : List ℕ) (r : Result ℕ PlannerRefusal) (q : Planner S) (new : List ℕ) : Type 0 where
  pub answer : Result ℕ PlannerRefusal
  pub pruned : Pruned rows p old answer q new
  pub judged : JudgedAfter rows q plan answer r
