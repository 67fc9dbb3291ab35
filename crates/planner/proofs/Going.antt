-- How every history goes on with a call. Assumes nothing.
use Rattle.std.proofs.Common.{◌≡◌, ℕ, Err, inl, inr, sym, refl, subst}
use Rattle.tickets.specs.Collections.{posted}
use Rattle.tickets.specs.declared.collection.Collection.{Collection}
use Rattle.stores.specs.Sets.{Rows}
use Rattle.runs.specs.Supports.{setting}
use Rattle.tickets.specs.Refusals.{Answers}
use Rattle.runs.specs.Planner.{Answer, sealed, Means, refuses, meaning, asked}
use Rattle.tickets.specs.declared.planner_refusal.PlannerRefusal.{PlannerRefusal}
use Rattle.runs.specs.Whole.{just_sealed, longer, Reached}
use Rattle.runs.specs.declared.call.Call.{Call}
use Rattle.runs.specs.declared.call.Call.TheVariants.{Ban, Fix}
use Rattle.runs.proofs.Refusals.{ban_11, ban_12, fix_11, fix_12}
use Rattle.planner.specs.Finding.{Found}
use Rattle.runs.proofs.Runs.{every_run}
use Rattle.planner.specs.declared.state.Planner.{Planner}
use Rattle.planner.specs.States.{setting_of, state_of}
use Rattle.planner.specs.Calls.{Stands, Sealed, Moved}

module _ {S : Type 0} (rows : S → Rows) where
  pub goes_on :
      (p q : Planner S) (c : Call) (a : Answer) → q.collection ≡ p.collection → Means (setting_of p) (state_of rows p) c a (state_of rows q) →
      Moved rows p c a q
  goes_on p q c a same means = record {
    means = means;
    collection = same;
    onward = λ h led.
        let runs = every_run (posted p.collection) in
        let on : Reached (setting_of p) (longer h c a) (state_of rows q) = runs.onward h (state_of rows p) (state_of rows q) c a led means in
        let there : Stands (setting_of p) (longer h c a) (state_of rows q) = record { reached = on; good = runs.good (longer h c a) (state_of rows q) on } in
        subst (λ (x : Collection). Stands (setting (posted x)) (longer h c a) (state_of rows q)) (sym same) there;
  }

  -- a call that is refused leaves all as it was
  pub refused :
      (p : Planner S) (c : Call) (e : PlannerRefusal) → Answers (meaning (setting_of p)) (asked (state_of rows p) c) e → Moved rows p c (Err e) p
  refused p c e why = goes_on p p c (Err e) refl (refuses why refl)

  -- what is not found is refused
  pub ban_lost : (p : Planner S) (i t : ℕ) (e : PlannerRefusal) → Found (setting_of p) (rows p.store) i t (Err e) → Moved rows p (Ban i t) (Err e) p
  ban_lost p i t e (inl (is, past)) = rw is (refused p _ _ (ban_11 _ _ i t past))
  ban_lost p i t e (inr (is, known, off)) = rw is (refused p _ _ (ban_12 _ _ i t known off))

  pub fix_lost : (p : Planner S) (i t : ℕ) (e : PlannerRefusal) → Found (setting_of p) (rows p.store) i t (Err e) → Moved rows p (Fix i t) (Err e) p
  fix_lost p i t e (inl (is, past)) = rw is (refused p _ _ (fix_11 _ _ i t past))
  fix_lost p i t e (inr (is, known, off)) = rw is (refused p _ _ (fix_12 _ _ i t known off))

  pub begins :
      (c : Collection) (stamp : ℕ) (p : Planner S) → p.collection ≡ c → state_of rows p ≡ sealed (setting_of p) stamp c.ceiling →
      Sealed rows c stamp p
  begins c stamp p same is = record {
    collection = same;
    state = is;
    stands = record { reached = is; good = (every_run (posted p.collection)).good (just_sealed stamp c.ceiling) (state_of rows p) is };
  }
