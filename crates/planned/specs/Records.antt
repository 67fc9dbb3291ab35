-- Judging records one after the other, up to the first that is refused. Assumes nothing.
use Rattle.std.specs.Prelude.{◌≡◌, ℕ, List, [], ◌∷◌, ◌++◌, map, Ok, Err, Result}
use Rattle.tickets.specs.Refusals.{Answers, Clear}
use Rattle.tickets.specs.Collections.{held}
use Rattle.tickets.specs.declared.collection.Collection.{Collection}
use Rattle.tickets.specs.declared.refusal.TicketRefusal.{TicketRefusal}
use Rattle.ticket_file.specs.Format.{Rec}
use Rattle.ticket_file.specs.Faults.{Judge, Taken}
use Rattle.ticket_file.specs.Readings.{plain}
use Rattle.ticket_file.specs.declared.record.Placed.{Placed}
use Rattle.day.specs.Judging.{Gathered, nothing, with_record, gather, judging, posting}
use Rattle.planned.specs.declared.fault.Fault.{Fault}
use Rattle.planned.specs.declared.fault.Refusal.TheVariants.{Ticket}

-- the records that are handed out
abbrev pub recs : List Placed → List Rec
recs xs = map (λ x. plain x.record) xs

-- of these records the judge takes some, and refuses the next one, which stands at the place p
pub record FirstRefused {E : Type 0} (j : Judge E) (xs : List Placed) (e : E) (p : ℕ) : Type 0 where
  pub before : List Placed
  pub it : Placed
  pub after : List Placed
  pub are : xs ≡ before ++ it ∷ after
  pub taken : Taken j (recs before)
  pub answers : Answers j (recs before, plain it.record) e
  pub place : p ≡ it.place

-- a collection, as what was gathered, with no bans
abbrev pub in_collection : Collection → Gathered
in_collection c = record { held = held c; bans = [] }

-- the record r at the place p was judged where c had been collected, and d is left: it is posted, or refused with a fault at its place
abbrev pub Posted : Collection → Rec → ℕ → Result Unit Fault → Collection → Type 0
Posted c r p (Ok _) d = Clear (judging (in_collection c)) r × (held d ≡ (with_record (in_collection c) r).held)
Posted c r p (Err f) d = ((e : TicketRefusal) × Answers (judging (in_collection c)) r e × (f ≡ record { refusal = Ticket e; place = p })) × (d ≡ c)

-- all of the records are posted, or the first that is refused is the fault
abbrev pub Collected : List Placed → Result Collection Fault → Type 0
Collected xs (Ok c) = Taken posting (recs xs) × (held c ≡ (gather nothing (recs xs)).held)
Collected xs (Err f) = (e : TicketRefusal) × FirstRefused posting xs e f.place × (f.refusal ≡ Ticket e)
