-- A file has one verdict: one largest table, or one fault. Assumes nothing.
use Rattle.std.proofs.Common.{◌≡◌, ℕ, Bool, true, false, List, ◌∷◌, [], ◌++◌, Some, None, vec_items, sym, refl, ap, ◌∙◌, subst, inl, inr, ⊎_elim, append_assoc}
use mathlib.Core.Path.{fun_ext}
use Rattle.std.proofs.lemmas.Bool.{cases_Bool}
use Rattle.tickets.specs.declared.ticket.Ticket.{Ticket}
use Rattle.ticket_file.specs.Format.{Rec}
use Rattle.ticket_file.specs.Faults.{Faulty}
use Rattle.ticket_file.proofs.Unique.{injective}
use Rattle.ticket_file.proofs.Verdicts.{held_is_well, one_fault}
use Rattle.day.specs.Judging.{nothing, gather}
use Rattle.runs.specs.Tables.{Table, Setting, Largest}
use Rattle.runs.specs.Supports.{setting}
use Rattle.listing.specs.Listings.{Lists}
use Rattle.planned.specs.declared.fault.Fault.{Fault}
use Rattle.planned.specs.declared.fault.Refusal.{Refusal}
use Rattle.planned.specs.declared.fault.Refusal.TheVariants.{File, Ticket as OfTicket, Planner as OfPlanner}
use Rattle.planned.specs.declared.report.Report.{Report}
use Rattle.planned.specs.Judging.{orders_table, judge, reason}
use Rattle.planned.specs.Texts.{fault_text, fault_line}
use Rattle.planned.specs.Reports.{Accepted, Planned, FaultOf, faulty, hopeless, Reported}
use Rattle.planned.proofs.Tickets.{same_tickets}
use Rattle.planned.proofs.Causes.{later, apart}

-- what prints, and the end of its line
pub line_of_fault : (f : Fault) → fault_text f ++ 10 ∷ [] ≡ fault_line f
line_of_fault f = simp append_assoc

same_test : (a b : Bool) → (a ≡ true → b ≡ true) → (b ≡ true → a ≡ true) → a ≡ b
same_test a b h k = ⊎_elim (λ (on : a ≡ true). on ∙ sym (h on)) (λ (off : a ≡ false). ⊎_elim (λ (on : b ≡ true). k on ∙ sym on) (λ (out : b ≡ false). off ∙ sym out) (cases_Bool b)) (cases_Bool a)

-- there is one largest self-supporting table
same_largest : (w : Setting) (U : ℕ) (S L K : Table) → Largest w U S L → Largest w U S K → L ≡ K
same_largest w U S L K a b = fun_ext (λ i. fun_ext (λ t. same_test (L i t) (K i t) (b.contains L a.itself a.within i t) (a.contains K b.itself b.within i t)))

-- a refusal is told by its reason
same_refusal : (r s : Refusal) → reason r ≡ reason s → r ≡ s
same_refusal (File f) (File g) e = cc
same_refusal (File f) (OfTicket d) e = cc
same_refusal (File f) (OfPlanner d) e = cc
same_refusal (OfTicket c) (File g) e = cc
same_refusal (OfTicket c) (OfTicket d) e = cc
same_refusal (OfTicket c) (OfPlanner d) e = cc
same_refusal (OfPlanner c) (File g) e = cc
same_refusal (OfPlanner c) (OfTicket d) e = cc
same_refusal (OfPlanner c) (OfPlanner d) e = cc

module _ (file : List ℕ) where
  same_accepted : (rs qs : List Rec) (ts us : List Ticket) → Accepted file rs ts → Accepted file qs us → (rs ≡ qs) × (ts ≡ us)
  same_accepted rs qs ts us a b =
      let e = injective rs qs (sym a.holds.is ∙ b.holds.is) in
      (e, same_tickets ts us (a.posts ∙ ap (λ l. (gather nothing l).held.tickets) e ∙ sym b.posts))

  well : (rs : List Rec) (ts : List Ticket) → Accepted file rs ts → (r : Refusal) (p : ℕ) → Faulty judge file (reason r) p → ⊥
  well rs ts a r p f = held_is_well judge later file rs a.holds a.taken (reason r) p f.meets

  same_planned : (ts us : List Ticket) (U V : ℕ) (L K : Table) → Planned file ts U L → Planned file us V K → (ts ≡ us) × (U ≡ V) × (L ≡ K)
  same_planned ts us U V L K a b =
      let (rs, tickets) = same_accepted a.rs b.rs ts us a.accepted b.accepted in
      let under : U ≡ V = a.ceiling ∙ ap (λ l. (gather nothing l).held.ceiling) rs ∙ sym b.ceiling in
      let there : Largest (setting ts) U (orders_table ts (gather nothing a.rs)) K =
      subst (λ l. Largest (setting ts) U (orders_table ts (gather nothing l)) K) (sym rs)
      (subst (λ u. Largest (setting ts) u (orders_table ts (gather nothing b.rs)) K) (sym under)
      (subst (λ xs. Largest (setting xs) V (orders_table xs (gather nothing b.rs)) K) (sym tickets) b.largest))
      in
      (tickets, under, same_largest (setting ts) U (orders_table ts (gather nothing a.rs)) L K a.largest there)

  -- a file that is planned has no fault
  planned_well : (ts : List Ticket) (U : ℕ) (L : Table) → Planned file ts U L → (r : Refusal) (p : ℕ) → FaultOf file r p → ⊥
  planned_well ts U L a r p (faulty f) = well a.rs ts a.accepted r p f
  planned_well ts U L a r p (hopeless h) =
      let (rs, tickets) = same_accepted a.rs h.rs ts h.ts a.accepted h.accepted in
      let there : Largest (setting h.ts) (gather nothing h.rs).held.ceiling (orders_table h.ts (gather nothing h.rs)) L =
      subst (λ xs. Largest (setting xs) (gather nothing h.rs).held.ceiling (orders_table xs (gather nothing h.rs)) L) tickets
      (subst (λ l. Largest (setting ts) (gather nothing l).held.ceiling (orders_table ts (gather nothing l)) L) rs
      (subst (λ u. Largest (setting ts) u (orders_table ts (gather nothing a.rs)) L) a.ceiling a.largest))
      in
      h.none L there.itself there.within

  -- a file has one fault
  same_fault : (r s : Refusal) (p q : ℕ) → FaultOf file r p → FaultOf file s q → (r ≡ s) × (p ≡ q)
  same_fault r s p q (faulty f) (faulty g) = let one = one_fault judge later apart file (reason r) (reason s) p q f g in (same_refusal r s one.0, one.1)
  same_fault r s p q (faulty f) (hopeless h) = absurd (well h.rs h.ts h.accepted r p f)
  same_fault r s p q (hopeless h) (faulty g) = absurd (well h.rs h.ts h.accepted s q g)
  same_fault r s p q (hopeless h) (hopeless k) = (refl, refl)

  -- the report on a file that is planned
  pub reports_listing : (x : Report) (ts : List Ticket) (U : ℕ) (L : Table) → Planned file ts U L → x.fault ≡ None → Lists ts U L (vec_items x.text) → Reported file x
  reports_listing x ts U L a none text = record {
    either = inl (ts, U, L, a);
    planned = λ us V K b.
        let (tickets, under, table) = same_planned ts us U V L K a b in
        (none, subst (λ xs. Lists xs V K (vec_items x.text)) tickets (subst (λ u. Lists ts u K (vec_items x.text)) under (subst (λ T. Lists ts U T (vec_items x.text)) table text)));
    fault = λ r p f. absurd (planned_well ts U L a r p f);
  }

  -- the report on a file with a fault
  pub reports_fault : (x : Report) (f : Fault) → FaultOf file f.refusal f.place → x.fault ≡ Some f → vec_items x.text ≡ fault_line f → Reported file x
  reports_fault x f a some text = record {
    either = inr (f.refusal, f.place, a);
    planned = λ ts U L b. absurd (planned_well ts U L b f.refusal f.place a);
    fault = λ r p b.
        let one = same_fault f.refusal r f.place p a b in
        let is : f ≡ record { refusal = r; place = p } = λ i. record { refusal = one.0 i; place = one.1 i } in
        (some ∙ ap Some is, text ∙ ap fault_line is);
  }
