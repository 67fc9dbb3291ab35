-- What a token needs: which calls leave the levels alone. Assumes nothing.
use Rattle.std.proofs.Common.{◌≡◌, ℕ, Bool, true, false, List, [], ◌∷◌, length, sym, refl, ap, ◌∙◌, arith, Ok, Err}
use Rattle.std.proofs.lemmas.Bool.{false≢true}
use Rattle.runs.specs.Tables.{Table, Setting}
use Rattle.runs.specs.Planner.{Answer, State, Newest, Meets, keep_stale, undo_stale, Takes, bans, fixes, lowers, marks, keeps, undoes, prunes, Means, takes, refuses}
use Rattle.runs.specs.declared.call.Call.{Call}
use Rattle.runs.specs.declared.call.Call.TheVariants.{Ban, Fix, Lower, Mark, Keep, Undo, Prune}
use Rattle.runs.specs.declared.call.Taken.TheVariants.{Marked}
use Rattle.tickets.specs.declared.planner_refusal.PlannerRefusal.{PlannerRefusal}

-- a token of the newest level has an open level
pub newest_open : (s : State) (stamp level : ℕ) → Newest s stamp level → (A : Table) × (As : List Table) × (s.levels ≡ A ∷ As)
newest_open s stamp level n = at s.levels refl
  where
    at : (As : List Table) → s.levels ≡ As → (A : Table) × (Bs : List Table) × (s.levels ≡ A ∷ Bs)
    at [] e = absurd (omega (arith, n.some, n.top, ap length e))
    at (A ∷ As) e = (A, As, e)

-- s' has the levels and the stamp of s
abbrev pub SameLevels : State → State → Type 0
SameLevels s s' = (s'.levels ≡ s.levels) × (s'.stamp ≡ s.stamp)

-- the calls that neither open nor close a level
abbrev pub within_level : Call → Bool
within_level (Ban i t) = true
within_level (Fix i t) = true
within_level (Lower u) = true
within_level Mark = false
within_level (Keep stamp level) = false
within_level (Undo stamp level) = false
within_level (Prune room) = true

pub newest_same : (s s' : State) (stamp level : ℕ) → SameLevels s s' → Newest s stamp level → Newest s' stamp level
newest_same s s' stamp level (ls, st) n = record { own = rw st n.own; some = n.some; top = rw ls n.top }

same_state : (s s' t : State) → s' ≡ t → SameLevels s t → SameLevels s s'
same_state s s' t e (ls, st) = (ap (λ x. x.levels) e ∙ ls, ap (λ x. x.stamp) e ∙ st)

module _ (w : Setting) (s s' : State) where
  takes_levels : (c : Call) (a : Answer) → within_level c ≡ true → Takes w s c a s' → SameLevels s s'
  takes_levels c a h (bans e) = same_state s s' _ e (refl, refl)
  takes_levels c a h (fixes e) = same_state s s' _ e (refl, refl)
  takes_levels c a h (lowers e) = same_state s s' _ e (refl, refl)
  takes_levels c a h (marks _ _ _) = absurd (false≢true h)
  takes_levels c a h (keeps _ _ _ _) = absurd (false≢true h)
  takes_levels c a h (undoes _ _ _ _) = absurd (false≢true h)
  takes_levels c a h (prunes _ _ _ e) = same_state s s' _ e (refl, refl)

  -- they leave each token as good as it was
  pub means_levels : (c : Call) (a : Answer) → within_level c ≡ true → Means w s c a s' → SameLevels s s'
  means_levels c a h (takes _ t) = takes_levels c a h t
  means_levels c a h (refuses _ e) = same_state s s' s e (refl, refl)

  -- a mark's token is of the newest level
  pub marked_newest : (stamp level : ℕ) → Means w s Mark (Ok (Marked stamp level)) s' → Newest s' stamp level
  marked_newest stamp level (takes _ (marks own top e)) =
      record { own = own ∙ ap (λ x. x.stamp) (sym e); some = omega (arith, top); top = omega (arith, top, ap (λ x. length x.levels) e) }

  -- a token of the newest level is not refused
  stale_keep : (stamp level : ℕ) (e : PlannerRefusal) → Meets w s e (Keep stamp level) → Newest s stamp level → ⊥
  stale_keep stamp level e (keep_stale h) n = h n

  stale_undo : (stamp level : ℕ) (e : PlannerRefusal) → Meets w s e (Undo stamp level) → Newest s stamp level → ⊥
  stale_undo stamp level e (undo_stale h) n = h n

  pub keep_taken : (stamp level : ℕ) (e : PlannerRefusal) → Newest s stamp level → Means w s (Keep stamp level) (Err e) s' → ⊥
  keep_taken stamp level e n (takes _ t) = elim t [ ]
  keep_taken stamp level e n (refuses a _) = stale_keep stamp level e a.meets n

  pub undo_taken : (stamp level : ℕ) (e : PlannerRefusal) → Newest s stamp level → Means w s (Undo stamp level) (Err e) s' → ⊥
  undo_taken stamp level e n (takes _ t) = elim t [ ]
  undo_taken stamp level e n (refuses a _) = stale_undo stamp level e a.meets n
