-- Every history, and a prune after it. Assumes nothing.
use Rattle.std.proofs.Common.{◌≡◌, ℕ, ◌≤◌, ◌↔◌, List, [], ◌∷◌, map, sym, refl, ap, subst, ⊎_elim, arith, Ok, Err}
use Rattle.runs.specs.Tables.{Setting, NoneWithin}
use Rattle.runs.specs.Ledger.{Ledger, orders_table, entered, ledger}
use Rattle.runs.specs.Planner.{Answer, State, words, Means, taken}
use Rattle.runs.specs.Whole.{Event, History, longer, Leads, Reached, heard, told, PruneAnswers, Right, WholeRuns, EveryRun}
use Rattle.runs.specs.Supports.{setting}
use Rattle.runs.specs.declared.call.Call.{Call}
use Rattle.runs.specs.declared.call.Call.TheVariants.{Prune}
use Rattle.runs.specs.declared.call.Taken.TheVariants.{Done, Marked, Cut}
use Rattle.tickets.specs.declared.planner_refusal.PlannerRefusal.TheVariants.{Hopeless}
use Rattle.runs.proofs.Tables.{Laws}
use Rattle.runs.proofs.Supports.{laws}
use Rattle.runs.proofs.Tokens.{marked_newest, newest_open}
use Rattle.runs.proofs.Steps.{Kept, kept_means, kept_sealed, kept_good, kept_prune}

-- a prune notes nothing
prune_noted : (room : ℕ) (a : Answer) (L : Ledger) → entered (Prune room) (taken a) L ≡ L
prune_noted room (Ok _) L = refl
prune_noted room (Err _) L = refl

module _ (w : Setting) where
  cut_not_refused : (k : ℕ) → ◌≡◌ {A = Answer} (Ok (Cut k)) (Err Hopeless) → ⊥
  cut_not_refused k e = let x : ◌≡◌ {A = ℕ} 0 1 = cc in omega arith

  -- what is answered where the list is enough
  pub exactly_hopeless :
      (L : Ledger) (room : ℕ) (s s' : State) (a : Answer) → PruneAnswers w L room s a s' → words w s ≤ room →
      (a ≡ Err Hopeless) ↔ NoneWithin w L.ceiling (orders_table w L)
  exactly_hopeless L room s s' (Ok Done) h enough = absurd h
  exactly_hopeless L room s s' (Ok (Marked stamp level)) h enough = absurd h
  exactly_hopeless L room s s' (Ok (Cut k)) h enough = (λ e. absurd (cut_not_refused k e), λ none. absurd (none s'.standing h.1.itself h.1.within))
  exactly_hopeless L room s s' (Err e) h enough =
      ⊎_elim (λ u. absurd (omega (arith, u.1))) (λ u. (λ _. u.2, λ _. ap Err u.0)) h.1

  pub onward : (h : History) (s s' : State) (c : Call) (a : Answer) → Reached w h s → Means w s c a s' → Reached w (longer h c a) s'
  onward h s s' c a r m = (s, r, m)

  module _ (ok : Laws w) where
    leads_kept : (stamp U : ℕ) (es : List Event) (s : State) → Leads w stamp U es s → Kept w (ledger U (map heard es)) s
    leads_kept stamp U [] s r = subst (λ x. Kept w (ledger U []) x) (sym r) (kept_sealed w ok stamp U)
    leads_kept stamp U (e ∷ es) s (m, r, step) = kept_means w ok m s e.call e.answer (ledger U (map heard es)) step (leads_kept stamp U es m r)

    reached_kept : (h : History) (s : State) → Reached w h s → Kept w (told h) s
    reached_kept h s r = leads_kept h.stamp h.ceiling h.events s r

    prune_right : (h : History) (room : ℕ) (s s' : State) (a : Answer) → Reached w h s → Means w s (Prune room) a s' → Right w h room s a s'
    prune_right h room s s' a r m =
        let L : Ledger = told h in
        let k : Kept w L s = reached_kept h s r in
        let k' : Kept w L s' = subst (λ N. Kept w N s') (prune_noted room a L) (kept_means w ok s s' (Prune room) a L m k) in
        let answers = kept_prune w ok s s' L room a k m in
        record {
          reached = onward h s s' (Prune room) a r m;
          before = kept_good w ok s L k;
          after = kept_good w ok s' L k';
          answers = answers;
          hopeless = exactly_hopeless L room s s' a answers;
        }

    -- over any setting with the laws
    pub whole : WholeRuns w
    whole = record {
      sealing = λ stamp U. refl;
      onward = onward;
      marked = marked_newest w;
      tokens = newest_open;
      good = λ h s r. kept_good w ok s (told h) (reached_kept h s r);
      prunes = prune_right;
    }

pub every_run : EveryRun
every_run ts = whole (setting ts) (laws ts)
