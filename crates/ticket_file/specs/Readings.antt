-- What reading a file gives. Assumes nothing.
use Rattle.std.specs.Prelude.{◌≡◌, ℕ, ◌+◌, ◌<◌, ◌≤◌, ◌⊎◌, List, [], ◌∷◌, ◌++◌, map, length, take, replicate, Some, None, Ok, Err, vec_items, Option, Result, ◌≢◌}
use Rattle.std.specs.List.{AllByRecursion}
use Rattle.ticket_file.specs.declared.refusal.FileRefusal.{FileRefusal}
use Rattle.ticket_file.specs.declared.refusal.FileRefusal.TheVariants.{UnknownKind, BodyLength}
use Rattle.ticket_file.specs.declared.refusal.FileFault.{FileFault}
use Rattle.ticket_file.specs.declared.record.Record.{Record}
use Rattle.ticket_file.specs.declared.record.Record.TheVariants.{Ticket, Ceiling, Ban}
use Rattle.ticket_file.specs.declared.record.Placed.{Placed}
use Rattle.ticket_file.specs.declared.stage.Stage.{Stage}
use Rattle.ticket_file.specs.declared.stage.Stage.TheVariants.{Tickets, Bans}
use Rattle.ticket_file.specs.declared.cursor.Cursor.{Cursor}
use Rattle.ticket_file.specs.declared.kind.Kind.{Kind}
use Rattle.ticket_file.specs.declared.kind.Kind.TheVariants.{Ticket as TicketKind, Ceiling as CeilingKind, Ban as BanKind}
use Rattle.ticket_file.specs.declared.reading.Reading.{Reading}
use Rattle.ticket_file.specs.Format.{Rec, ticket, ceiling, ban, kind, bytes, Fit, file_of, Whole, kinds, Holds}
use Rattle.ticket_file.specs.Faults.{no_judge, Upto, form, Faulty}

-- the record that parts of a file stand for
abbrev pub plain : Record → Rec
plain (Ticket terms label) = ticket terms label.bytes.now
plain (Ceiling u) = ceiling u
plain (Ban i s) = ban i s

-- where a record stands, what it is, and where its label stands
pub record Spot : Type 0 where
  pub place : ℕ
  pub rec : Rec
  pub label : Option ℕ

-- the record r at the place p; a label comes after the kind, the length and five bytes
abbrev pub spot : ℕ → Rec → Spot
spot p (ticket t label) = record { place = p; rec = ticket t label; label = Some (p + 7) }
spot p (ceiling u) = record { place = p; rec = ceiling u; label = None }
spot p (ban i s) = record { place = p; rec = ban i s; label = None }

-- records one after the other, the first at the place p
abbrev pub spots : ℕ → List Rec → List Spot
spots p [] = []
spots p (r ∷ rs) = spot p r ∷ spots (p + length (bytes r)) rs

-- where a record's label stands
abbrev pub label_place : Record → Option ℕ
label_place (Ticket terms label) = Some label.place
label_place (Ceiling u) = None
label_place (Ban i s) = None

-- a record as it is handed out
abbrev pub seen : Placed → Spot
seen x = record { place = x.place; rec = plain x.record; label = label_place x.record }

-- rs are all the records of the file, or those before its fault (none where the header is at fault)
abbrev pub Ends : List ℕ → List Rec → Option FileFault → Type 0
Ends file rs None = Holds file rs
Ends file rs (Some f) = Faulty no_judge file (form f.refusal) f.place × (((f.place < 5) × (rs ≡ [])) ⊎ Upto no_judge file f.place rs)

-- What reading gives: the records rs with their places and labels, all of them or those before the fault. It
-- gives all exactly when the file holds them, and a fault exactly when that is the file's.
pub record Read (file : List ℕ) (x : Reading) : Type 0 where
  pub rs : List Rec
  pub handed : map seen (vec_items x.records) ≡ spots 5 rs
  pub ends : Ends file rs x.fault
  pub all : (qs : List Rec) → Holds file qs → (x.fault ≡ None) × (rs ≡ qs)
  pub faulty : (e : FileRefusal) (p : ℕ) → Faulty no_judge file (form e) p → x.fault ≡ Some (record { refusal = e; place = p })

-- the kinds that a stage follows: tickets only, or the ceiling too
abbrev pub Follows : Stage → List ℕ → Type 0
Follows Tickets ks = (m : ℕ) × (ks ≡ replicate m 84)
Follows Bans ks = Whole ks

-- the records rs are read, up to the place p
pub record Sofar (file : List ℕ) (p : ℕ) (s : Stage) (rs : List Rec) : Type 0 where
  pub small : length file ≤ 32768
  pub within : p ≤ length file
  pub is : take p file ≡ file_of rs
  pub fit : AllByRecursion Fit rs
  pub follows : Follows s (kinds rs)

-- the records rs are read, and the cursor stands after them
abbrev pub At : Cursor → List Rec → Type 0
At c rs = Sofar c.file.now c.place c.stage rs

-- the record where the cursor stood was read, and the cursor d stands after it, or there is the file's fault
abbrev pub Found : Cursor → List Rec → Result Placed FileRefusal → Cursor → Type 0
Found c rs (Ok x) d = At d (rs ++ plain x.record ∷ []) × (d.file.now ≡ c.file.now) × (seen x ≡ spot c.place (plain x.record)) × (c.place < d.place)
Found c rs (Err e) d = Faulty no_judge c.file.now (form e) c.place

-- one step: the next record, the end of a whole file, or its fault
abbrev pub Next : Cursor → List Rec → Result (Option Placed) FileFault → Cursor → Type 0
Next c rs (Ok (Some x)) d = Found c rs (Ok x) d
Next c rs (Ok None) d = Holds c.file.now rs
Next c rs (Err f) d = Found c rs (Err f.refusal) d × (f.place ≡ c.place)

-- the letter of a kind: T, C or B
abbrev pub letter : Kind → ℕ
letter TicketKind = 84
letter CeilingKind = 67
letter BanKind = 66

-- the kind with the letter l, or the refusal of a letter that no record has
abbrev pub Names : ℕ → Result Kind FileRefusal → Type 0
Names l (Ok k) = letter k ≡ l
Names l (Err e) = (e ≡ UnknownKind) × ((r : Rec) → kind r ≢ l)

-- the record x has the kind k and the body b, and stands at the place p
pub record Decoded (k : ℕ) (b : List ℕ) (p : ℕ) (x : Record) : Type 0 where
  pub is : bytes (plain x) ≡ k ∷ length b ∷ b
  pub fit : Fit (plain x)
  pub label : label_place x ≡ (spot p (plain x)).label

-- no record has the kind k and a body of n bytes
abbrev pub Misfits : ℕ → ℕ → FileRefusal → Type 0
Misfits k n e = (e ≡ BodyLength) × ((r : Rec) → Fit r → kind r ≡ k → length (bytes r) ≢ 2 + n)
