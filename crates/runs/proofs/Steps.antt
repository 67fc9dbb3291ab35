-- The one invariant of every run, and that each call keeps it. Assumes nothing.
use Rattle.std.proofs.Common.{◌≡◌, ℕ, suc, ◌≤◌, true, ◌↔◌, List, [], ◌∷◌, ◌++◌, length, sym, refl, ap, subst, inl, inr, ⊎_elim, append_assoc, le_of_lt, Ok, Err}
use Rattle.tickets.specs.Refusals.{Clear}
use Rattle.runs.specs.Tables.{Table, Plan, Setting, Within, Full, PastEmpty, SelfSupporting, NoneWithin, Largest, Affordable}
use Rattle.runs.specs.Orders.{Order, ban, fix, less, ordered}
use Rattle.runs.specs.Ledger.{Ledger, opened, together, in_force, orders_table, write, join, drop, noted, entered}
use Rattle.runs.specs.Planner.{Answer, State, sealed, with_table, with_levels, asked, meaning, Takes, bans, fixes, lowers, marks, keeps, undoes, prunes, Means, takes, refuses, taken}
use Rattle.runs.specs.Whole.{Good, PruneAnswers}
use Rattle.runs.specs.declared.call.Call.{Call}
use Rattle.runs.specs.declared.call.Call.TheVariants.{Prune}
use Rattle.runs.proofs.Tables.{Laws, one, within_trans, within_past, within_full, posted_past, posted_full, one_held, one_within, one_self, self_up}
use Rattle.runs.proofs.Orders.{less_within, less_both, ordered_within, ban_full, fix_full}
use Rattle.runs.proofs.Refusals.{ban_stands, ban_several, fix_stands, lower_less, prune_enough, prune_by}

-- under the ceiling U the table S stands for the orders' table O: no row is empty, and no self-supporting table within O is lost
pub record Stands (w : Setting) (U : ℕ) (S O : Table) : Type 0 where
  pub full : Full w S
  pub inside : Within S O
  pub loses_none : (T : Table) → SelfSupporting w U T → Within T O → Within T S

-- so does the table at each mark for the orders of its page and those below
abbrev pub AllStand : Setting → ℕ → List Table → List (List Order) → Type 0
AllStand w U [] [] = Unit {0}
AllStand w U [] (p ∷ ps) = ⊥
AllStand w U (A ∷ As) [] = ⊥
AllStand w U (A ∷ As) (p ∷ ps) = Stands w U A (ordered w (p ++ together ps)) × AllStand w U As ps

-- what every call keeps
pub record Kept (w : Setting) (L : Ledger) (s : State) : Type 0 where
  pub ceilings : s.ceiling ≡ L.ceiling
  pub present : Stands w s.ceiling s.standing (orders_table w L)
  pub at_marks : AllStand w s.ceiling s.levels L.below

module _ (w : Setting) (ok : Laws w) where
  stands_less : (o : Order) {U : ℕ} {S O : Table} → Full w (less o S) → Stands w U S O → Stands w U (less o S) (less o O)
  stands_less o {S = S} {O = O} f h = record {
    full = f;
    inside = λ i t on. less_both o S O i t on (h.inside i t (less_within o S i t on));
    loses_none = λ T self in_o i t on. less_both o O S i t (in_o i t on) (h.loses_none T self (within_trans in_o (less_within o O)) i t on);
  }

  stands_down : {U V : ℕ} {S O : Table} → V ≤ U → Stands w U S O → Stands w V S O
  stands_down le h = record { full = h.full; inside = h.inside; loses_none = λ T self. h.loses_none T (self_up w ok le self) }

  all_down : {U V : ℕ} (As : List Table) (ps : List (List Order)) → V ≤ U → AllStand w U As ps → AllStand w V As ps
  all_down [] [] le h = tt
  all_down [] (p ∷ ps) le h = absurd h
  all_down (A ∷ As) [] le h = absurd h
  all_down (A ∷ As) (p ∷ ps) le h = (stands_down le h.0, all_down As ps le h.1)

  -- what is the largest within the standing table is the largest within the orders' table
  largest_ordered : {U : ℕ} {S O R : Table} → Stands w U S O → Largest w U S R → Largest w U O R
  largest_ordered h g = record { itself = g.itself; within = within_trans g.within h.inside; contains = λ T self in_o. g.contains T self (h.loses_none T self in_o) }

  stands_largest : {U : ℕ} {O R : Table} → Largest w U O R → Stands w U R O
  stands_largest g = record { full = g.itself.full; inside = g.within; loses_none = g.contains }

  kept_order : (o : Order) (s : State) (L : Ledger) → Full w (less o s.standing) → Kept w L s → Kept w (write o L) (with_table s (less o s.standing))
  kept_order o s L f k = record { ceilings = k.ceilings; present = stands_less o f k.present; at_marks = k.at_marks }

  kept_join :
      (s : State) (A : Table) (As : List Table) (page : List Order) (ps : List (List Order)) → Stands w s.ceiling s.standing (ordered w (page ++ together ps)) →
      AllStand w s.ceiling (A ∷ As) ps → Kept w (join page ps s.ceiling) (with_levels s As)
  kept_join s A As page [] h m = absurd m
  kept_join s A As page (p ∷ ps) h m = record { ceilings = refl; present = rw append_assoc h; at_marks = m.1 }

  kept_drop :
      (s : State) (A : Table) (As : List Table) (page : List Order) (ps : List (List Order)) → AllStand w s.ceiling (A ∷ As) ps →
      Kept w (drop page ps s.ceiling) (with_table (with_levels s As) A)
  kept_drop s A As page [] m = absurd m
  kept_drop s A As page (p ∷ ps) m = record { ceilings = refl; present = m.0; at_marks = m.1 }

  same : {s s' : State} {L : Ledger} → s' ≡ s → Kept w L s → Kept w L s'
  same {L = L} e k = subst (λ x. Kept w L x) (sym e) k

  -- what a call that is taken does, the ledger notes
  kept_takes : (s s' : State) (c : Call) (a : Answer) (L : Ledger) → Clear (meaning w) (asked s c) → Takes w s c a s' → Kept w L s → Kept w (noted c L) s'
  kept_takes s s' c a L free (bans {i} {t} e) k =
      same e (kept_order (ban i t) s L (ban_full w s.standing i t (ban_stands w s i t free) (ban_several w s i t free) k.present.full) k)
  kept_takes s s' c a L free (fixes {i} {t} e) k = same e (kept_order (fix i t) s L (fix_full w s.standing i t (fix_stands w s i t free) k.present.full) k)
  kept_takes s s' c a L free (lowers {u} e) k =
      let le : u ≤ s.ceiling = le_of_lt (lower_less w s u free) in
      same e (record { ceilings = refl; present = stands_down le k.present; at_marks = all_down s.levels L.below le k.at_marks })
  kept_takes s s' c a L free (marks _ _ e) k = same e (record { ceilings = k.ceilings; present = k.present; at_marks = (k.present, k.at_marks) })
  kept_takes s s' c a L free (keeps A As split e) k =
      same e (rw (← k.ceilings) (kept_join s A As L.page L.below k.present (subst (λ Bs. AllStand w s.ceiling Bs L.below) split k.at_marks)))
  kept_takes s s' c a L free (undoes A As split e) k =
      same e (rw (← k.ceilings) (kept_drop s A As L.page L.below (subst (λ Bs. AllStand w s.ceiling Bs L.below) split k.at_marks)))
  kept_takes s s' c a L free (prunes R g _ e) k =
      same e (record { ceilings = k.ceilings; present = stands_largest (largest_ordered k.present g); at_marks = k.at_marks })

  takes_told : (s s' : State) (c : Call) (a : Answer) → Takes w s c a s' → taken a ≡ true
  takes_told s s' c a (bans _) = refl
  takes_told s s' c a (fixes _) = refl
  takes_told s s' c a (lowers _) = refl
  takes_told s s' c a (marks _ _ _) = refl
  takes_told s s' c a (keeps _ _ _ _) = refl
  takes_told s s' c a (undoes _ _ _ _) = refl
  takes_told s s' c a (prunes _ _ _ _) = refl

  pub kept_means : (s s' : State) (c : Call) (a : Answer) (L : Ledger) → Means w s c a s' → Kept w L s → Kept w (entered c (taken a) L) s'
  kept_means s s' c a L (takes free t) k = rw (takes_told s s' c a t) (kept_takes s s' c a L free t k)
  kept_means s s' c a L (refuses _ e) k = same e k

  pub kept_sealed : (stamp U : ℕ) → Kept w (opened U) (sealed w stamp U)
  kept_sealed stamp U = record { ceilings = refl; present = record { full = posted_full w ok; inside = λ i t on. on; loses_none = λ T _ h. h }; at_marks = tt }

  levels_paged : (U : ℕ) (As : List Table) (ps : List (List Order)) → AllStand w U As ps → length ps ≡ length As
  levels_paged U [] [] h = refl
  levels_paged U [] (p ∷ ps) h = absurd h
  levels_paged U (A ∷ As) [] h = absurd h
  levels_paged U (A ∷ As) (p ∷ ps) h = ap suc (levels_paged U As ps h.1)

  -- an affordable plan's own table supports itself, so it is not lost
  kept_plans : (s : State) (L : Ledger) → Kept w L s → (p : Plan) → Affordable w L.ceiling s.standing p ↔ Affordable w L.ceiling (orders_table w L) p
  kept_plans s L k p = (
    λ a. record { chosen = λ i l. k.present.inside i (p i) (a.chosen i l); afforded = a.afforded },
    λ a. record {
      chosen = λ i l. k.present.loses_none (one w p) (one_self w ok p s.ceiling (rw k.ceilings a.afforded)) (one_within w p (orders_table w L) a.chosen) i (p i) (one_held w p i l);
      afforded = a.afforded;
    },
  )

  pub kept_good : (s : State) (L : Ledger) → Kept w L s → Good w L s
  kept_good s L k =
      let ends : PastEmpty w (orders_table w L) = within_past w (ordered_within w (in_force L)) (posted_past w) in
      record {
        ceiling = k.ceilings;
        pages = levels_paged s.ceiling s.levels L.below k.at_marks;
        plans = kept_plans s L k;
        standing_full = k.present.full;
        standing_past = within_past w k.present.inside ends;
        orders_full = within_full w k.present.inside k.present.full;
        orders_past = ends;
      }

  -- what a prune answers
  pub kept_prune : (s s' : State) (L : Ledger) (room : ℕ) (a : Answer) → Kept w L s → Means w s (Prune room) a s' → PruneAnswers w L room s a s'
  kept_prune s s' L room a k (takes free (prunes {k = n} R g cuts e)) =
      let table : s'.standing ≡ R = ap (λ x. x.standing) e in
      let most : Largest w L.ceiling (orders_table w L) R = subst (λ U. Largest w U (orders_table w L) R) k.ceilings (largest_ordered k.present g) in
      (prune_enough w s room free, rw table most, rw table cuts)
  kept_prune s s' L room a k (refuses {e} by is) = (is, ⊎_elim inl (λ h. inr (h.0, h.1, none h.2)) (prune_by w s room e by))
    where
      none : NoneWithin w s.ceiling s.standing → NoneWithin w L.ceiling (orders_table w L)
      none h = subst (λ U. NoneWithin w U (orders_table w L)) k.ceilings (λ T self in_o. h T self (k.present.loses_none T self in_o))
