-- What a first prune leaves. Assumes nothing.
use Rattle.std.proofs.Common.{◌≡◌, ℕ, List, length, subst, Result}
use Rattle.tickets.specs.Collections.{posted as tickets_of}
use Rattle.tickets.specs.declared.collection.Collection.{Collection}
use Rattle.tickets.specs.declared.planner_refusal.PlannerRefusal.{PlannerRefusal}
use Rattle.stores.specs.Sets.{Rows}
use Rattle.runs.specs.Tables.{posted}
use Rattle.runs.specs.Supports.{setting}
use Rattle.runs.specs.Planner.{sealed as just_now}
use Rattle.runs.specs.Ledger.{opened}
use Rattle.runs.specs.Whole.{just_sealed, Right, PruneAnswers}
use Rattle.planner.specs.declared.state.Planner.{Planner}
use Rattle.planner.specs.States.{state_of}
use Rattle.planner.specs.Calls.{Sealed}
use Rattle.planner.specs.Promise.{pruned, Pruned}
use Rattle.planner_tests.specs.Plans.{Keeps}

module _ {S : Type 0} (rows : S → Rows) (c : Collection) (stamp : ℕ) (p q : Planner S) (old new : List ℕ) (sealed : Sealed rows c stamp p) where
  -- the promise after no call
  promised : (r : Result ℕ PlannerRefusal) → Pruned rows p old r q new → Right (setting (tickets_of c)) (just_sealed stamp c.ceiling) (length old) (state_of rows p) (pruned r) (state_of rows q)
  promised r prune =
      subst (λ d. Right (setting (tickets_of d)) (just_sealed stamp c.ceiling) (length old) (state_of rows p) (pruned r) (state_of rows q)) sealed.collection
      ((prune.promise (just_sealed stamp c.ceiling) sealed.stands.reached).right)

  pub first_keeps : (r : Result ℕ PlannerRefusal) → Pruned rows p old r q new → Keeps (setting (tickets_of c)) c.ceiling (posted (setting (tickets_of c))) (rows q.store)
  first_keeps r prune s afforded = (((promised r prune).after.plans s).1 afforded).chosen

  pub first_answer :
      (r : Result ℕ PlannerRefusal) → Pruned rows p old r q new →
      PruneAnswers (setting (tickets_of c)) (opened c.ceiling) (length old) (just_now (setting (tickets_of c)) stamp c.ceiling) (pruned r) (state_of rows q)
  first_answer r prune =
      subst (λ s. PruneAnswers (setting (tickets_of c)) (opened c.ceiling) (length old) s (pruned r) (state_of rows q))
      (subst (λ d. state_of rows p ≡ just_now (setting (tickets_of d)) stamp c.ceiling) sealed.collection sealed.state)
      ((promised r prune).answers)
