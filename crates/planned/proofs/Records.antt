-- Posting the records one by one. Assumes nothing.
use Rattle.std.proofs.Common.{◌≡◌, ℕ, ◌+◌, ◌<◌, ◌≤◌, List, [], ◌∷◌, ◌++◌, length, get_or, take, drop, Ok, Err, sym, ap, ◌∙◌, subst, append_assoc, arith, length-append, take-append-drop}
use Rattle.std.proofs.lemmas.List.{take_more, drop_more, take_all, map-append}
use Rattle.tickets.specs.Collections.{held}
use Rattle.tickets.specs.declared.collection.Collection.{Collection}
use Rattle.tickets.specs.declared.refusal.TicketRefusal.{TicketRefusal}
use Rattle.ticket_file.specs.declared.record.Placed.{Placed}
use Rattle.ticket_file.specs.declared.record.Record.TheVariants.{Ticket as TicketRecord}
use Rattle.ticket_file.specs.Format.{Rec, ticket, ceiling, ban, kinds, Begins}
use Rattle.ticket_file.specs.Faults.{Judge, Taken}
use Rattle.ticket_file.specs.Readings.{plain}
use Rattle.ticket_file.proofs.Judged.{takes_more}
use Rattle.day.specs.Judging.{Gathered, nothing, with_record, gather, posting, Refuses}
use Rattle.day.proofs.Gathering.{gather_push}
use Rattle.planned.specs.declared.fault.Fault.{Fault}
use Rattle.planned.specs.Judging.{Cause, collecting, planning, judge}
use Rattle.planned.specs.Records.{recs, FirstRefused, in_collection, Posted, Collected}
use Rattle.planned.proofs.Causes.{low, high}
use Rattle.planned.proofs.AfterBans.{after_ban, one_ban, no_refused_ban}

-- what a reading past the end of a slice of records stands for
abbrev pub blank : Placed
blank = record { place = 0; «record» = TicketRecord (record { first = 0; last = 0; length = 0; weight = 0 }) (record { place = 0; bytes = record { ref_ptr = (0, 0); now = [] } }) }

-- one of the records, those before it and those after it
pub around : (xs : List Placed) (k : ℕ) (d : Placed) → k < length xs → xs ≡ take k xs ++ get_or xs k d ∷ drop (k + 1) xs
around xs k d lt = sym (take-append-drop k xs) ∙ ap (λ l. take k xs ++ l) (drop_more xs k d lt)

pub recs_around : (before after : List Placed) (x : Placed) → recs (before ++ x ∷ after) ≡ recs before ++ plain x.record ∷ recs after
recs_around before after x = map-append (λ y. plain y.record) before (x ∷ after)

pub one_more : (xs : List Placed) (k : ℕ) (d : Placed) → k < length xs → recs (take (k + 1) xs) ≡ recs (take k xs) ++ plain (get_or xs k d).record ∷ []
one_more xs k d lt = ap recs (take_more xs k d lt) ∙ recs_around (take k xs) [] (get_or xs k d)

-- a judge takes no records
pub takes_none : {E : Type 0} (j : Judge E) → Taken j []
takes_none j before after r same e m = absurd (omega (arith, ap length same, length-append before (r ∷ after)))

-- the refusal of a record depends on what is held alone, and so does what is held after it
refuses_held : (e : TicketRefusal) (g h : Gathered) (r : Rec) → g.held ≡ h.held → Refuses e g r → Refuses e h r
refuses_held e g h (ticket t label) same m = subst (λ x. Refuses e (record { held = x; bans = [] }) (ticket t label)) same m
refuses_held e g h (ceiling u) same m = subst (λ x. Refuses e (record { held = x; bans = [] }) (ceiling u)) same m
refuses_held e g h (ban i t) same m = m

held_more : (g h : Gathered) (r : Rec) → g.held ≡ h.held → (with_record g r).held ≡ (with_record h r).held
held_more g h (ticket t label) same = ap (λ x. (with_record (record { held = x; bans = [] }) (ticket t label)).held) same
held_more g h (ceiling u) same = ap (λ x. (with_record (record { held = x; bans = [] }) (ceiling u)).held) same
held_more g h (ban i t) same = same

-- the first k records are posted, and c has what they hold
abbrev pub Sofar : List Placed → ℕ → Collection → Type 0
Sofar xs k c = Taken posting (recs (take k xs)) × (held c ≡ (gather nothing (recs (take k xs))).held)

pub none_posted : (xs : List Placed) (c : Collection) → held c ≡ nothing.held → Sofar xs 0 c
none_posted xs c e = (takes_none posting, e)

module _ (xs : List Placed) (k : ℕ) (c : Collection) (lt : k < length xs) (sofar : Sofar xs k c) where
  x : Placed
  x = get_or xs k blank

  r : Rec
  r = plain (get_or xs k blank).record

  pub posted_more : (u : Unit) (d : Collection) → Posted c (plain (get_or xs k blank).record) (get_or xs k blank).place (Ok u) d → Sofar xs (k + 1) d
  unfolding r
  posted_more u d (clear, more) =
      let g = gather nothing (recs (take k xs)) in
      subst (λ l. Taken posting l × (held d ≡ (gather nothing l).held)) (sym (one_more xs k blank lt)) (
        takes_more posting (recs (take k xs)) r sofar.0 (λ e m. clear e (refuses_held e g (in_collection c) r (sym sofar.1) m)),
        more ∙ held_more (in_collection c) g r sofar.1 ∙ ap (λ h. h.held) (sym (gather_push nothing (recs (take k xs)) r)),
      )

  pub posted_first : (f : Fault) (d : Collection) → Posted c (plain (get_or xs k blank).record) (get_or xs k blank).place (Err f) d → Collected xs (Err f)
  unfolding r x
  posted_first f d ((e, answers, at), same) =
      let g = gather nothing (recs (take k xs)) in (
        e,
        record {
          before = take k xs;
          it = x;
          after = drop (k + 1) xs;
          are = around xs k blank lt;
          taken = sofar.0;
          answers = record {
            meets = refuses_held e (in_collection c) g r sofar.1 answers.meets;
            first = λ b l m. answers.first b l (refuses_held b g (in_collection c) r (sym sofar.1) m);
          };
          place = ap (λ y. y.place) at;
        },
        ap (λ y. y.refusal) at,
      )

pub all_posted : (xs : List Placed) (k : ℕ) (c : Collection) → length xs ≤ k → Sofar xs k c → Collected xs (Ok c)
all_posted xs k c l s = subst (λ y. Taken posting (recs y) × (held c ≡ (gather nothing (recs y)).held)) (take_all k xs l) s

-- where the file's order holds, the first record that the collection refuses is the first that is refused
pub posting_first : (xs : List Placed) (e : TicketRefusal) (p : ℕ) → Begins (kinds (recs xs)) → FirstRefused posting xs e p → FirstRefused judge xs (collecting e) p
posting_first xs e p begins f = record {
  before = f.before;
  it = f.it;
  after = f.after;
  are = f.are;
  taken = λ b a r same c m. taken b a r same c m;
  answers = record { meets = f.answers.meets; first = lower };
  place = f.place;
}
  where
    all : recs xs ≡ recs f.before ++ plain f.it.record ∷ recs f.after
    all = ap recs f.are ∙ recs_around f.before f.after f.it

    taken : (b a : List Rec) (r : Rec) → recs f.before ≡ b ++ r ∷ a → (c : Cause) → (judge c).meets (b, r) → ⊥
    taken b a r same (collecting d) m = f.taken b a r same d m
    taken b a (ticket t label) same (planning d) m = m
    taken b a (ceiling u) same (planning d) m = m
    taken b a (ban i t) same (planning d) m =
        let split : recs xs ≡ b ++ ban i t ∷ (a ++ plain f.it.record ∷ recs f.after) = all ∙ ap (λ l. l ++ plain f.it.record ∷ recs f.after) same ∙ simp append_assoc in
        no_refused_ban e (gather nothing (recs f.before)) (plain f.it.record) f.answers.meets (one_ban a (recs f.after) (plain f.it.record) (after_ban b (a ++ plain f.it.record ∷ recs f.after) i t (subst (λ l. Begins (kinds l)) split begins)))

    lower : (c : Cause) → (judge c).number < (judge (collecting e)).number → (judge c).meets (recs f.before, plain f.it.record) → ⊥
    lower (collecting d) l m = f.answers.first d l m
    lower (planning d) l m = omega (arith, high d, low e)
