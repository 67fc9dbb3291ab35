-- What a file comes to, from its reading and the judging of its records. Assumes nothing.
use Rattle.std.proofs.Common.{◌≡◌, ℕ, ◌+◌, ◌<◌, ◌≤◌, List, [], ◌∷◌, ◌++◌, map, length, get_or, take, drop, Some, None, Ok, Err, vec_items, string_bytes, Option, sym, ap, ◌∙◌, subst, inl, inr, ⊎_elim, arith, length-append, take-append-drop}
use lib.ListN.{length-map}
use Rattle.std.specs.List.{flat_map}
use Rattle.std.proofs.lemmas.List.{take_more, drop_more, get_or-map, take_all}
use Rattle.tickets.specs.Refusals.{Answers, Clear}
use Rattle.ticket_file.specs.declared.refusal.FileFault.{FileFault}
use Rattle.ticket_file.specs.declared.record.Placed.{Placed}
use Rattle.ticket_file.specs.declared.record.Record.TheVariants.{Ticket as TicketRecord}
use Rattle.ticket_file.specs.declared.reading.Reading.{Reading}
use Rattle.ticket_file.specs.Format.{Rec, bytes, file_of}
use Rattle.ticket_file.specs.Faults.{no_judge, Taken, Upto, form, contents, Faulty}
use Rattle.ticket_file.specs.Readings.{plain, seen, Ends, Read}
use Rattle.ticket_file.proofs.Unique.{injective}
use Rattle.ticket_file.proofs.Verdicts.{whole_upto, refuses_contents, held_is_well, one_fault}
use Rattle.ticket_file.proofs.Judged.{takes_more, leads_up, stands, comes, judged, form_fault, handed_all, handed_at}
use Rattle.day.specs.declared.contents.GatherError.{GatherError}
use Rattle.day.specs.declared.contents.GatherError.TheVariants.{Refused, OutOfMemory}
use Rattle.day.specs.declared.fault.Refusal.{Refusal}
use Rattle.day.specs.declared.fault.Refusal.TheVariants.{File, Ticket}
use Rattle.day.specs.declared.fault.Fault.{Fault}
use Rattle.day.specs.declared.report.Report.{Report}
use Rattle.day.specs.Judging.{Gathered, nothing, with_record, gather, judging, posting, reason}
use Rattle.day.specs.Contents.{Took}
use Rattle.day.specs.Texts.{Lists, fault_line}
use Rattle.day.specs.Reports.{Accepted, Outcome, Reported}
use Rattle.day.proofs.Gathering.{gather_push, later, apart}

-- what a reading past the end of a slice of records stands for
abbrev pub blank : Placed
blank = record { place = 0; «record» = TicketRecord (record { first = 0; last = 0; length = 0; weight = 0 }) (record { place = 0; bytes = record { ref_ptr = (0, 0); now = [] } }) }

-- the records that are handed out
abbrev pub recs : List Placed → List Rec
recs xs = map (λ x. plain x.record) xs

-- the records before one of them, it, and those after it
around : (xs : List Placed) (k : ℕ) (d : Placed) → k < length xs → recs xs ≡ take k (recs xs) ++ plain (get_or xs k d).record ∷ drop (k + 1) (recs xs)
around xs k d lt =
    let r = plain d.record in
    let room : k < length (recs xs) = omega (arith, length-map xs (λ x. plain x.record)) in
    sym (take-append-drop k (recs xs)) ∙ ap (λ l. take k (recs xs) ++ l) (drop_more (recs xs) k r room) ∙ ap (λ q. take k (recs xs) ++ q ∷ drop (k + 1) (recs xs)) (get_or-map (λ x. plain x.record) xs k d r lt)

one_more : (xs : List Placed) (k : ℕ) (d : Placed) → k < length xs → take (k + 1) (recs xs) ≡ take k (recs xs) ++ plain (get_or xs k d).record ∷ []
one_more xs k d lt =
    let r = plain d.record in
    let room : k < length (recs xs) = omega (arith, length-map xs (λ x. plain x.record)) in
    take_more (recs xs) k r room ∙ ap (λ q. take k (recs xs) ++ q ∷ []) (get_or-map (λ x. plain x.record) xs k d r lt)

-- the first k records are taken, and g is what they came to
abbrev pub Sofar : List Placed → ℕ → Gathered → Type 0
Sofar xs k g = Taken posting (take k (recs xs)) × (g ≡ gather nothing (take k (recs xs)))

pub no_record : (xs : List Placed) (g : Gathered) → g ≡ nothing → Sofar xs 0 g
no_record xs g e = ((λ before after r same. absurd (omega (arith, ap length same, length-append before (r ∷ after)))), e)

pub next_record : (xs : List Placed) (k : ℕ) (d : Placed) (g h : Gathered) (u : Unit) → k < length xs → Sofar xs k g → Took g (plain (get_or xs k d).record) (get_or xs k d).place (Ok u) h → Sofar xs (k + 1) h
next_record xs k d g h u lt (taken, is) (clear, more) =
    let r = plain (get_or xs k d).record in
    let all = take k (recs xs) in
    subst (λ l. Taken posting l × (h ≡ gather nothing l)) (sym (one_more xs k d lt)) (
      takes_more posting all r taken (subst (λ x. Clear (judging x) r) is clear),
      more ∙ ap (λ x. with_record x r) is ∙ sym (gather_push nothing all r),
    )

module _ (file : List ℕ) (x : Reading) (read : Read file x) (xs : List Placed) (same : xs ≡ vec_items x.records) where
  are : recs xs ≡ read.rs
  are = handed_all 5 xs read.rs (ap (map seen) same ∙ read.handed)

  -- some record was read, so the header is well
  some_read : (f : Option FileFault) → Ends file read.rs f → 0 < length read.rs → (q : ℕ) × Upto no_judge file q read.rs
  some_read None h lt = (length file, whole_upto no_judge (λ e. absurd e) file read.rs h (λ _ _ _ _ e _. absurd e))
  some_read (Some f) (b, front) lt = ⊎_elim (λ h. absurd (omega (arith, ap length h.1))) (λ u. (f.place, u)) front

  -- the first record that is refused is the fault
  pub contents_fault : (k : ℕ) (d : Placed) (g h : Gathered) (e : GatherError) → k < length xs → Sofar xs k g → Took g (plain (get_or xs k d).record) (get_or xs k d).place (Err e) h → Outcome file (Err e)
  unfolding file_of
  contents_fault k d g h (OutOfMemory e) lt sofar told = tt
  contents_fault k d g h (Refused f) lt (taken, is) ((e, answers, at), left) =
      let r = plain (get_or xs k d).record in
      let before = take k (recs xs) in
      let after = drop (k + 1) (recs xs) in
      let some = some_read x.fault read.ends (omega (arith, ap length are, length-map xs (λ x. plain x.record))) in
      let upto : Upto no_judge file some.0 (before ++ r ∷ after) = subst (Upto no_judge file some.0) (sym are ∙ around xs k d lt) some.1 in
      let refused = subst (λ x. Answers (judging x) r e) is answers in
      let place : (get_or xs k d).place ≡ length (file_of before) = handed_at 5 xs read.rs k d (ap (map seen) same ∙ read.handed) lt ∙ ap (λ l. 5 + length (flat_map bytes (take k l))) (sym are) ∙ omega arith in
      subst (λ y. Faulty posting file (reason y.refusal) y.place) (sym at)
      (subst (Faulty posting file (contents e)) (sym place)
      (refuses_contents posting later file (length (file_of before)) before r e (judged posting file _ before (leads_up file _ before after r upto) taken) (stands file _ before after r upto) (comes file _ before after r upto) (record { meets = refused.meets; first = refused.first })))

  all_taken : (k : ℕ) (g : Gathered) → length xs ≤ k → Sofar xs k g → Taken posting read.rs × (g ≡ gather nothing read.rs)
  all_taken k g h s = subst (λ l. Taken posting l × (g ≡ gather nothing l)) (take_all k (recs xs) (omega (arith, length-map xs (λ x. plain x.record))) ∙ are) s

  -- all records are taken: the fault is the form's
  pub form_found : (k : ℕ) (g : Gathered) (f : FileFault) → length xs ≤ k → Sofar xs k g → x.fault ≡ Some f → Faulty posting file (form f.refusal) f.place
  form_found k g f h s some =
      let ends = subst (Ends file read.rs) some read.ends in
      form_fault posting file f.place read.rs ends.1 (all_taken k g h s).0 later f.refusal ends.0

  -- all records are taken, and nothing is wrong
  pub all_found : (k : ℕ) (g : Gathered) → length xs ≤ k → Sofar xs k g → x.fault ≡ None → (rs : List Rec) × Accepted file rs × (g ≡ gather nothing rs)
  all_found k g h s none =
      let all = all_taken k g h s in
      (read.rs, record { holds = subst (Ends file read.rs) none read.ends; taken = all.0 }, all.1)

-- a refusal is told by its reason
same_refusal : (v w : Refusal) → reason v ≡ reason w → v ≡ w
same_refusal (File f) (File g) e = cc
same_refusal (File f) (Ticket d) e = cc
same_refusal (Ticket d) (File g) e = cc
same_refusal (Ticket d) (Ticket c) e = cc

-- the report on a file that is accepted
pub reports_listing : (file : List ℕ) (x : Report) (g : Gathered) (rs : List Rec) → Accepted file rs → g ≡ gather nothing rs → x.fault ≡ None → Lists g (string_bytes x.text) → Reported file x
reports_listing file x g rs a is none text = record {
  either = inl (rs, a);
  accepted = λ qs b. (none, subst (λ h. Lists h (string_bytes x.text)) (is ∙ ap (gather nothing) (injective rs qs (sym a.holds.is ∙ b.holds.is))) text);
  faulty = λ w p f. absurd (held_is_well posting later file rs a.holds a.taken (reason w) p f.meets);
}

-- the report on a file with a fault
pub reports_fault : (file : List ℕ) (x : Report) (f : Fault) → Faulty posting file (reason f.refusal) f.place → x.fault ≡ Some f → string_bytes x.text ≡ fault_line (reason f.refusal) f.place → Reported file x
reports_fault file x f b some text = record {
  either = inr (reason f.refusal, f.place, b);
  accepted = λ qs a. absurd (held_is_well posting later file qs a.holds a.taken (reason f.refusal) f.place b.meets);
  faulty = λ w p c.
      let one = one_fault posting later apart file (reason f.refusal) (reason w) f.place p b c in
      let e = same_refusal f.refusal w one.0 in
      (some ∙ ap Some (λ i. record { refusal = e i; place = one.1 i }), text ∙ (λ i. fault_line (reason (e i)) (one.1 i)));
}
