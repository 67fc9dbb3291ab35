-- What the report on a file is. Assumes nothing.
use Rattle.std.specs.Prelude.{◌≡◌, ℕ, ◌⊎◌, List, Some, None, Ok, Err, string_bytes, Result, ⊤}
use Rattle.tickets.specs.declared.refusal.TicketRefusal.{TicketRefusal}
use Rattle.ticket_file.specs.Format.{Rec, Holds}
use Rattle.ticket_file.specs.Faults.{Taken, Reason, Faulty}
use Rattle.day.specs.declared.contents.Contents.{Contents}
use Rattle.day.specs.declared.contents.GatherError.{GatherError}
use Rattle.day.specs.declared.contents.GatherError.TheVariants.{Refused, OutOfMemory}
use Rattle.day.specs.declared.fault.Refusal.{Refusal}
use Rattle.day.specs.declared.report.Report.{Report}
use Rattle.day.specs.Judging.{nothing, gather, posting, reason}
use Rattle.day.specs.Contents.{gathered}
use Rattle.day.specs.Texts.{Lists, fault_line}

-- the file holds the records rs, and all of them are taken
pub record Accepted (file : List ℕ) (rs : List Rec) : Type 0 where
  pub holds : Holds file rs
  pub taken : Taken posting rs

-- what the records of a file came to, or its fault; where there was no memory, nothing is said
abbrev pub Outcome : List ℕ → Result Contents GatherError → Type 0
Outcome file (Ok c) = (rs : List Rec) × Accepted file rs × (gathered c ≡ gather nothing rs)
Outcome file (Err (Refused f)) = Faulty posting file (reason f.refusal) f.place
Outcome file (Err (OutOfMemory _)) = ⊤

-- The report on a file. Each file is accepted or faulty. The report is a listing of what the records come to
-- exactly when the file is accepted with them, and a fault's line exactly when that is the file's fault.
pub record Reported (file : List ℕ) (x : Report) : Type 0 where
  pub either : ((rs : List Rec) × Accepted file rs) ⊎ ((w : Reason TicketRefusal) × (p : ℕ) × Faulty posting file w p)
  pub accepted : (rs : List Rec) → Accepted file rs → (x.fault ≡ None) × Lists (gather nothing rs) (string_bytes x.text)
  pub faulty : (w : Refusal) (p : ℕ) → Faulty posting file (reason w) p → (x.fault ≡ Some (record { refusal = w; place = p })) × (string_bytes x.text ≡ fault_line (reason w) p)
