-- What a file comes to, from its reading and the judging of its records. Assumes nothing.
use Rattle.std.proofs.Common.{◌≡◌, ℕ, ◌+◌, ◌<◌, ◌≤◌, List, [], ◌∷◌, ◌++◌, map, length, get_or, take, Some, None, Ok, Err, vec_items, Option, sym, refl, ap, ◌∙◌, subst, ⊎_elim, append-nil, arith, length-append}
use lib.ListN.{length-map}
use Rattle.std.specs.List.{flat_map}
use Rattle.std.proofs.lemmas.List.{take_at, get_or_at}
use Rattle.tickets.specs.Collections.{held, posted}
use Rattle.tickets.specs.declared.collection.Collection.{Collection}
use Rattle.tickets.specs.declared.planner_refusal.PlannerRefusal.{PlannerRefusal}
use Rattle.ticket_file.specs.declared.refusal.FileFault.{FileFault}
use Rattle.ticket_file.specs.declared.record.Placed.{Placed}
use Rattle.ticket_file.specs.declared.reading.Reading.{Reading}
use Rattle.ticket_file.specs.Format.{Rec, bytes, file_of, order, kinds, Begins, Holds}
use Rattle.ticket_file.specs.Faults.{no_judge, Taken, Upto, form, contents, Faulty}
use Rattle.ticket_file.specs.Readings.{plain, seen, Ends, Read}
use Rattle.ticket_file.proofs.Verdicts.{whole_upto, refuses_contents}
use Rattle.ticket_file.proofs.Judged.{leads_up, stands, comes, judged, form_fault, handed_all, handed_at}
use Rattle.day.specs.Judging.{nothing, gather}
use Rattle.stores.specs.BitRows.{bit_rows}
use Rattle.stores.specs.declared.bit_store.BitStore.{BitStore}
use Rattle.runs.specs.Tables.{NoneWithin, Largest}
use Rattle.runs.specs.Ledger.{Ledger, orders_table as ledger_table}
use Rattle.runs.specs.Orders.{ordered}
use Rattle.runs.specs.Planner.{words}
use Rattle.runs.specs.Whole.{told, just_sealed}
use Rattle.runs.proofs.Starts.{starts_most}
use Rattle.planner.specs.declared.state.Planner.{Planner}
use Rattle.planner.specs.States.{setting_of, state_of}
use Rattle.planner.specs.Calls.{Sealed}
use Rattle.planner.specs.Promise.{Pruned}
use Rattle.planned.specs.declared.fault.Fault.{Fault}
use Rattle.planned.specs.declared.fault.Refusal.TheVariants.{Planner as OfPlanner}
use Rattle.planned.specs.Judging.{Cause, collecting, planning, orders, orders_table, banned, judge, reason}
use Rattle.planned.specs.Records.{recs, FirstRefused, Collected}
use Rattle.planned.specs.Plans.{Stands, Ready, BannedAll}
use Rattle.planned.specs.Reports.{Accepted, Planned, HopelessDay, FaultOf, faulty, hopeless}
use Rattle.planned.proofs.Causes.{later}
use Rattle.planned.proofs.Records.{blank, recs_around, posting_first}

no_fault : (f : Option FileFault) → ((x : FileFault) → f ≡ Some x → ⊥) → f ≡ None
no_fault None h = refl
no_fault (Some x) h = absurd (h x refl)

module _ (file : List ℕ) (x : Reading) (read : Read file x) (xs : List Placed) (same : xs ≡ vec_items x.records) where
  are : recs xs ≡ read.rs
  are = handed_all 5 xs read.rs (ap (map seen) same ∙ read.handed)

  -- some record was read, so the header is well
  some_read : (f : Option FileFault) → Ends file read.rs f → 0 < length read.rs → (q : ℕ) × Upto no_judge file q read.rs
  some_read None h lt = (length file, whole_upto no_judge (λ e. absurd e) file read.rs h (λ _ _ _ _ e _. absurd e))
  some_read (Some f) (b, front) lt = ⊎_elim (λ h. absurd (omega (arith, ap length h.1))) (λ u. (f.place, u)) front

  in_order : (f : Option FileFault) → Ends file read.rs f → Begins (kinds read.rs)
  in_order None h = ([], subst (λ ks. (m : ℕ) × (n : ℕ) × (ks ≡ order m n)) (sym (append-nil (kinds read.rs))) h.whole)
  in_order (Some f) (b, front) = ⊎_elim (λ h. subst (λ rs. Begins (kinds rs)) (sym h.1) (67 ∷ [], (0, 0, refl))) (λ u. u.begins) front

  -- the records that are handed out come in order
  pub ordered_recs : Begins (kinds (recs xs))
  ordered_recs = subst (λ rs. Begins (kinds rs)) (sym are) (in_order x.fault read.ends)

  -- the first record that is refused is the fault
  pub first_fault : (c : Cause) (p : ℕ) → FirstRefused judge xs c p → Faulty judge file (contents c) p
  unfolding file_of
  first_fault c p f =
      let r = plain f.it.record in
      let before = recs f.before in
      let after = recs f.after in
      let all : recs xs ≡ before ++ r ∷ after = ap recs f.are ∙ recs_around f.before f.after f.it in
      let some = some_read x.fault read.ends (omega (arith, ap length are, ap length all, length-append before (r ∷ after))) in
      let upto : Upto no_judge file some.0 (before ++ r ∷ after) = subst (Upto no_judge file some.0) (sym are ∙ all) some.1 in
      let k = length f.before in
      let here : get_or xs k blank ≡ f.it = ap (λ l. get_or l k blank) f.are ∙ get_or_at f.before f.it f.after blank k refl in
      let room : k < length xs = omega (arith, ap length f.are, length-append f.before (f.it ∷ f.after)) in
      let front : take k read.rs ≡ before = ap (take k) (sym are ∙ all) ∙ take_at before (r ∷ after) k (length-map f.before (λ y. plain y.record)) in
      let place : p ≡ length (file_of before) =
      f.place ∙ ap (λ y. y.place) (sym here) ∙ handed_at 5 xs read.rs k blank (ap (map seen) same ∙ read.handed) room ∙ ap (λ l. 5 + length (flat_map bytes l)) front ∙ omega arith
      in
      subst (Faulty judge file (contents c)) (sym place)
      (refuses_contents judge later file (length (file_of before)) before r c (judged judge file _ before (leads_up file _ before after r upto) f.taken) (stands file _ before after r upto) (comes file _ before after r upto) f.answers)

  -- all records are taken: the fault is the form's
  pub form_found : (f : FileFault) → Taken judge (recs xs) → x.fault ≡ Some f → Faulty judge file (form f.refusal) f.place
  form_found f taken some =
      let ends = subst (Ends file read.rs) some read.ends in
      form_fault judge file f.place read.rs ends.1 (subst (Taken judge) are taken) later f.refusal ends.0

  -- all records are taken, and nothing is wrong
  pub all_found : (m : Planner BitStore) (u : Unit) → ((f : FileFault) → x.fault ≡ Some f → ⊥) → BannedAll xs (Ok u) m → Accepted file (recs xs) (posted m.collection)
  all_found m u well (taken, stands) = record {
    holds = subst (Holds file) (sym are) (subst (Ends file read.rs) (no_fault x.fault well) read.ends);
    taken = taken;
    posts = ap (λ h. h.tickets) stands.collection;
  }

-- a refusal by the collection, or by the planner, of a first record
pub posting_fault :
    (file : List ℕ) (x : Reading) (read : Read file x) (xs : List Placed) (same : xs ≡ vec_items x.records) (f : Fault) → Collected xs (Err f) →
    FaultOf file f.refusal f.place
posting_fault file x read xs same f (e, first, is) =
    faulty (subst (λ r. Faulty judge file (reason r) f.place) (sym is) (first_fault file x read xs same (collecting e) f.place (posting_first xs e f.place (ordered_recs file x read xs same) first)))

pub banning_fault :
    (file : List ℕ) (x : Reading) (read : Read file x) (xs : List Placed) (same : xs ≡ vec_items x.records) (f : Fault) (n : Planner BitStore) → BannedAll xs (Err f) n →
    FaultOf file f.refusal f.place
banning_fault file x read xs same f n (e, first, is) =
    faulty (subst (λ r. Faulty judge file (reason r) f.place) (sym is) (first_fault file x read xs same (planning e) f.place first))

-- a planner that is sealed over what was collected is ready for the bans
pub sealed_ready : (xs : List Placed) (c : Collection) (p : Planner BitStore) → Begins (kinds (recs xs)) → Collected xs (Ok c) → Sealed bit_rows c 0 p → Ready xs p
sealed_ready xs c p begins (taken, is) seal = record {
  order = begins;
  posted = taken;
  stands = record {
    collection = ap held seal.collection ∙ is;
    state = seal.state ∙ ap (λ u. banned (posted p.collection) (record { held = record { tickets = (held c).tickets; ceiling = u }; bans = [] })) (ap (λ h. h.ceiling) is);
    history = just_sealed 0 c.ceiling;
    reached = seal.stands.reached;
    told = ap (λ u. record { page = []; below = []; ceiling = u }) (ap (λ h. h.ceiling) is);
  };
}

-- a list with a word for each start that there can be is enough
enough : (m : Planner BitStore) → words (setting_of m) (state_of bit_rows m) ≤ 6144
enough m = omega (arith, starts_most (setting_of m) (bit_rows m.store), m.collection.few)

-- the pruning of a planner that has taken all bans
module _ (file : List ℕ) (rs : List Rec) (m n : Planner BitStore) (s : Stands (gather nothing rs) m) (accepted : Accepted file rs (posted m.collection)) (old new : List ℕ) where
  -- the ledger's table is the orders' table
  table_is : ledger_table (setting_of m) (told s.history) ≡ orders_table (posted m.collection) (gather nothing rs)
  table_is = ap (ledger_table (setting_of m)) s.told ∙ ap (ordered (setting_of m)) (append-nil (orders (gather nothing rs)))

  ceiling_is : (told s.history).ceiling ≡ (gather nothing rs).held.ceiling
  ceiling_is = ap (λ (l : Ledger). l.ceiling) s.told

  pub pruned_planned : (k : ℕ) → Pruned bit_rows m old (Ok k) n new → Planned file (posted n.collection) n.ceiling (bit_rows n.store)
  pruned_planned k p =
      let right = (p.promise s.history s.reached).right in
      let w = setting_of m in
      let lowered : n.ceiling ≡ (gather nothing rs).held.ceiling = right.after.ceiling ∙ ceiling_is in
      let largest : Largest w n.ceiling (orders_table (posted m.collection) (gather nothing rs)) (bit_rows n.store) =
      subst (λ T. Largest w n.ceiling T (bit_rows n.store)) table_is (subst (λ u. Largest w u (ledger_table w (told s.history)) (bit_rows n.store)) (sym right.after.ceiling) right.answers.1)
      in
      subst (λ (c : Collection). Planned file (posted c) n.ceiling (bit_rows n.store)) (sym p.moved.collection)
      (record { rs = rs; accepted = accepted; ceiling = lowered; largest = largest })

  hopeless_day : NoneWithin (setting_of m) (told s.history).ceiling (ledger_table (setting_of m) (told s.history)) → HopelessDay file
  hopeless_day none = record {
    rs = rs;
    ts = posted m.collection;
    accepted = accepted;
    none = subst (λ u. NoneWithin (setting_of m) u (orders_table (posted m.collection) (gather nothing rs))) ceiling_is (subst (NoneWithin (setting_of m) (told s.history).ceiling) table_is none);
  }

  pub pruned_hopeless : (e : PlannerRefusal) → length old ≡ 6144 → Pruned bit_rows m old (Err e) n new → FaultOf file (OfPlanner e) (length file)
  pruned_hopeless e room p =
      ⊎_elim
      (λ short. absurd (omega (arith, short.1, room, enough m)))
      (λ none. subst (λ d. FaultOf file (OfPlanner d) (length file)) (sym none.0) (hopeless (hopeless_day none.2)))
      (p.promise s.history s.reached).right.answers.1
