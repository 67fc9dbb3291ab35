-- What trying a ban answers, and what it leaves. Assumes nothing.
use Rattle.std.proofs.Common.{◌≡◌, ℕ, ◌≤◌, List, ◌∷◌, length, sym, refl, ap, ◌∙◌, subst, inl, inr, Ok, Err, Result}
use Rattle.tickets.specs.Collections.{posted}
use Rattle.tickets.specs.declared.planner_refusal.PlannerRefusal.{PlannerRefusal}
use Rattle.tickets.specs.declared.planner_refusal.PlannerRefusal.TheVariants.{TooManyLevels}
use Rattle.stores.specs.Sets.{Rows}
use Rattle.runs.specs.Tables.{Table, Setting}
use Rattle.runs.specs.Planner.{Answer, State, Meets, mark_too_many, with_table, with_levels, bans, marks, undoes, prunes, Means, takes, refuses}
use Rattle.runs.specs.declared.call.Call.TheVariants.{Ban, Mark, Undo, Prune}
use Rattle.runs.specs.declared.call.Taken.TheVariants.{Done, Marked}
use Rattle.runs.specs.Supports.{setting}
use Rattle.runs.proofs.Tokens.{marked_newest, newest_same, undo_taken}
use Rattle.planner.specs.declared.state.Planner.{Planner}
use Rattle.planner.specs.States.{setting_of, state_of}
use Rattle.planner.specs.Calls.{Moved}
use Rattle.planner.specs.Promise.{pruned, CutList, ListsCuts, cuts_of, Pruned}
use Rattle.planner_tests.specs.Trying.{Refused, Free, with_level, with_ban, PruneTells, BanTells, MarkTells, Tried, Unchanged}

module _ (w : Setting) where
  -- each call, by what it means
  marked : (s s' : State) (stamp level : ℕ) → Means w s Mark (Ok (Marked stamp level)) s' → s' ≡ with_level s
  marked s s' stamp level (takes _ (marks _ _ e)) = e

  pub not_marked : (s s' : State) (e : PlannerRefusal) → Means w s Mark (Err e) s' → Refused w s Mark e × (s' ≡ s)
  not_marked s s' e (takes _ t) = elim t [ ]
  not_marked s s' e (refuses a is) = (a, is)

  banned : (s s' : State) (i t : ℕ) → Means w s (Ban i t) (Ok Done) s' → Free w s (Ban i t) × (s' ≡ with_ban s i t)
  banned s s' i t (takes free (bans e)) = (free, e)

  not_banned : (s s' : State) (i t : ℕ) (e : PlannerRefusal) → Means w s (Ban i t) (Err e) s' → Refused w s (Ban i t) e × (s' ≡ s)
  not_banned s s' i t e (takes _ x) = elim x [ ]
  not_banned s s' i t e (refuses a is) = (a, is)

  prune_tells : (s s' : State) (old new : List ℕ) (r : Result ℕ PlannerRefusal) → Means w s (Prune (length old)) (pruned r) s' → CutList s.standing s'.standing old r new → PruneTells w s old r new
  prune_tells s s' old new (Ok k) (takes _ (prunes L g _ e)) list = (L, g, subst (λ T. ListsCuts (cuts_of s.standing T) old new k) (ap (λ x. x.standing) e) list)
  prune_tells s s' old new (Err e) (takes _ t) list = elim t [ ]
  prune_tells s s' old new (Err e) (refuses a _) list = (a, list)

  prune_state : (s s' : State) (room : ℕ) (a : Answer) → Means w s (Prune room) a s' → s' ≡ with_table s s'.standing
  prune_state s s' room a (takes _ (prunes L _ _ e)) = subst (λ x. x ≡ with_table s x.standing) (sym e) refl
  prune_state s s' room a (refuses _ e) = subst (λ x. x ≡ with_table s x.standing) (sym e) refl

  -- the newest level is the mark's, and what stands at it is gone back to
  back :
      (s s' u : State) (T A : Table) (As : List Table) → s' ≡ with_table (with_level s) T → A ≡ s.standing → As ≡ s.levels →
      u ≡ with_table (with_levels s' As) A → u ≡ s
  back s s' u T A As is a as_is to = to ∙ (λ i. with_table (with_levels (is i) (as_is i)) (a i))

  undone : (s s' : State) (T : Table) (stamp level : ℕ) (u : State) → s' ≡ with_table (with_level s) T → Means w s' (Undo stamp level) (Ok Done) u → u ≡ s
  undone s s' T stamp level u is (takes _ (undoes A As e to)) =
      let all : s.standing ∷ s.levels ≡ A ∷ As = ap (λ x. x.levels) (sym is) ∙ e in
      let a : A ≡ s.standing = cc in
      let as_is : As ≡ s.levels = cc in
      back s s' u T A As is a as_is to

  by_mark : (s : State) (e : PlannerRefusal) → Meets w s e Mark → e ≡ TooManyLevels
  by_mark s e (mark_too_many _) = refl

  mark_room : (s s' : State) (stamp level : ℕ) → Means w s Mark (Ok (Marked stamp level)) s' → 32 ≤ length s.levels → ⊥
  mark_room s s' stamp level (takes free _) full = free TooManyLevels (mark_too_many full)

module _ {S : Type 0} (rows : S → Rows) (p : Planner S) (i t : ℕ) (old : List ℕ) where
  abbrev w : Setting
  w = setting_of p

  abbrev s : State
  s = state_of rows p

  -- the ban was refused
  pub tried_refused : (q : Planner S) (e : PlannerRefusal) → Moved rows p (Ban i t) (Err e) q → Tried rows p i t old (Err e) q old
  tried_refused q e moved =
      let (a, is) = not_banned w s (state_of rows q) i t e moved.means in
      record { collection = moved.collection; state = subst (λ x. x ≡ with_table s x.standing) (sym is) refl; tells = inl (a, refl) }

  ban_tells : (r : Result ℕ PlannerRefusal) (new : List ℕ) → Free w s (Ban i t) → PruneTells w (with_ban s i t) old r new → BanTells w s i t old r new
  ban_tells (Ok k) new free told = (free, told)
  ban_tells (Err e) new free told = inr told

  -- it was taken, and the prune answered
  pub tried_pruned : (m q : Planner S) (r : Result ℕ PlannerRefusal) (new : List ℕ) → Moved rows p (Ban i t) (Ok Done) m → Pruned rows m old r q new → Tried rows p i t old r q new
  tried_pruned m q r new moved prune =
      let (free, is) = banned w s (state_of rows m) i t moved.means in
      let here : Means w (state_of rows m) (Prune (length old)) (pruned r) (state_of rows q) =
      subst (λ d. Means (setting (posted d)) (state_of rows m) (Prune (length old)) (pruned r) (state_of rows q)) moved.collection prune.moved.means in
      let means : Means w (with_ban s i t) (Prune (length old)) (pruned r) (state_of rows q) =
      subst (λ x. Means w x (Prune (length old)) (pruned r) (state_of rows q)) is here in
      let list : CutList (with_ban s i t).standing (rows q.store) old r new = subst (λ (x : State). CutList x.standing (rows q.store) old r new) is prune.list in
      record {
        collection = prune.moved.collection ∙ moved.collection;
        state = prune_state w (with_ban s i t) (state_of rows q) (length old) (pruned r) means;
        tells = ban_tells r new free (prune_tells w (with_ban s i t) (state_of rows q) old new r means list);
      }

  same_state : (q : Planner S) → q.collection ≡ p.collection → state_of rows q ≡ s → Unchanged rows p q
  same_state q collection is = record { collection = collection; table = ap (λ x. x.standing) is; ceiling = ap (λ x. x.ceiling) is; state = is }

  module _ (q : Planner S) (e : PlannerRefusal) (moved : Moved rows p Mark (Err e) q) where
    -- the mark was refused
    pub unmarked : Unchanged rows p q
    unmarked = same_state q moved.collection (not_marked w s (state_of rows q) e moved.means).1

    pub unmarked_full : e ≡ TooManyLevels
    unmarked_full = by_mark w s e (not_marked w s (state_of rows q) e moved.means).0.meets

    pub unmarked_tells : MarkTells w s i t old (Err e) old
    unmarked_tells = inl ((not_marked w s (state_of rows q) e moved.means).0, refl)

  module _
      (m n : Planner S) (stamp level : ℕ) (r : Result ℕ PlannerRefusal) (new : List ℕ)
      (opens : Moved rows p Mark (Ok (Marked stamp level)) m) (tried : Tried rows m i t old r n new) where
    with_mark : state_of rows m ≡ with_level s
    with_mark = marked w s (state_of rows m) stamp level opens.means

    -- the mark's token is of the newest level still
    pub token_taken : (q : Planner S) (e : PlannerRefusal) → Moved rows n (Undo stamp level) (Err e) q → ⊥
    token_taken q e moved =
        undo_taken (setting_of n) (state_of rows n) (state_of rows q) stamp level e
        (newest_same (state_of rows m) (state_of rows n) stamp level (ap (λ x. x.levels) tried.state, ap (λ x. x.stamp) tried.state)
        (marked_newest w s (state_of rows m) stamp level opens.means))
        moved.means

    -- all was undone
    pub gone_back : (q : Planner S) → Moved rows n (Undo stamp level) (Ok Done) q → Unchanged rows p q
    gone_back q moved =
        same_state q (moved.collection ∙ tried.collection ∙ opens.collection)
        (undone (setting_of n) s (state_of rows n) (rows n.store) stamp level (state_of rows q) (tried.state ∙ ap (λ x. with_table x (rows n.store)) with_mark) moved.means)

    pub had_room : 32 ≤ length s.levels → ⊥
    had_room = mark_room w s (state_of rows m) stamp level opens.means

    tells_here : BanTells w (with_level s) i t old r new
    tells_here = subst (λ x. BanTells w x i t old r new) with_mark (subst (λ d. BanTells (setting (posted d)) (state_of rows m) i t old r new) opens.collection tried.tells)

    mark_tells : (a : Result ℕ PlannerRefusal) → BanTells w (with_level s) i t old a new → MarkTells w s i t old a new
    mark_tells (Ok k) h = h
    mark_tells (Err e) h = inr h

    pub marked_tells : MarkTells w s i t old r new
    marked_tells = mark_tells r tells_here
