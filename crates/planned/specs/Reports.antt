-- What the report on a file is. Assumes nothing.
use Rattle.std.specs.Prelude.{◌≡◌, ℕ, ◌⊎◌, ◌↔◌, List, length, Some, None, Ok, Err, vec_items, Result, ⊤}
use Rattle.tickets.specs.Collections.{posted}
use Rattle.tickets.specs.declared.ticket.Ticket.{Ticket}
use Rattle.tickets.specs.declared.planner_refusal.PlannerRefusal.TheVariants.{Hopeless}
use Rattle.ticket_file.specs.Format.{Rec, Holds}
use Rattle.ticket_file.specs.Faults.{Taken, Faulty}
use Rattle.day.specs.Judging.{nothing, gather}
use Rattle.stores.specs.BitRows.{bit_rows}
use Rattle.stores.specs.declared.bit_store.BitStore.{BitStore}
use Rattle.runs.specs.Tables.{Table, Plan, NoneWithin, Largest, Affordable}
use Rattle.runs.specs.Supports.{setting}
use Rattle.listing.specs.Listings.{Lists}
use Rattle.planner.specs.declared.state.Planner.{Planner}
use Rattle.planned.specs.declared.fault.Refusal.{Refusal}
use Rattle.planned.specs.declared.fault.Refusal.TheVariants.{Planner as OfPlanner}
use Rattle.planned.specs.declared.planning.PlanError.{PlanError}
use Rattle.planned.specs.declared.planning.PlanError.TheVariants.{Refused, OutOfMemory}
use Rattle.planned.specs.declared.report.Report.{Report}
use Rattle.planned.specs.Judging.{Posts, orders_table, judge, reason}
use Rattle.planned.specs.Texts.{fault_line}

-- the file holds the records rs, all of them are taken, and they post the tickets ts
pub record Accepted (file : List ℕ) (rs : List Rec) (ts : List Ticket) : Type 0 where
  pub holds : Holds file rs
  pub taken : Taken judge rs
  pub posts : Posts (gather nothing rs) ts

-- the file is accepted with the tickets ts and the ceiling U, and L is the largest self-supporting table within the orders' table
pub record Planned (file : List ℕ) (ts : List Ticket) (U : ℕ) (L : Table) : Type 0 where
  pub rs : List Rec
  pub accepted : Accepted file rs ts
  pub ceiling : U ≡ (gather nothing rs).held.ceiling
  pub largest : Largest (setting ts) U (orders_table ts (gather nothing rs)) L

-- the file is accepted, and no self-supporting table lies within the orders' table
pub record HopelessDay (file : List ℕ) : Type 0 where
  pub rs : List Rec
  pub ts : List Ticket
  pub accepted : Accepted file rs ts
  pub none : NoneWithin (setting ts) (gather nothing rs).held.ceiling (orders_table ts (gather nothing rs))

-- the fault of a file: of its form or its contents, at the place of what is refused, or of its day, at its end
pub data FaultOf (file : List ℕ) : Refusal → ℕ → Type 0 where
  faulty : {r : Refusal} {p : ℕ} → Faulty judge file (reason r) p → FaultOf file r p
  hopeless : HopelessDay file → FaultOf file (OfPlanner Hopeless) (length file)

-- what a file came to: a planner with the pruned table, or its fault; where there was no memory, nothing is said
abbrev pub Outcome : List ℕ → Result (Planner BitStore) PlanError → Type 0
Outcome file (Ok p) = Planned file (posted p.collection) p.ceiling (bit_rows p.store)
Outcome file (Err (Refused f)) = FaultOf file f.refusal f.place
Outcome file (Err (OutOfMemory _)) = ⊤

-- The report on a file. Each file is planned, or has a fault. The report is the listing of the largest self-supporting table exactly
-- when the file is planned with it, and a fault's line exactly when that is the file's fault.
pub record Reported (file : List ℕ) (x : Report) : Type 0 where
  pub either : ((ts : List Ticket) × (U : ℕ) × (L : Table) × Planned file ts U L) ⊎ ((r : Refusal) × (p : ℕ) × FaultOf file r p)
  pub planned : (ts : List Ticket) (U : ℕ) (L : Table) → Planned file ts U L → (x.fault ≡ None) × Lists ts U L (vec_items x.text)
  pub fault :
      (r : Refusal) (p : ℕ) → FaultOf file r p →
      (x.fault ≡ Some (record { refusal = r; place = p })) × (vec_items x.text ≡ fault_line (record { refusal = r; place = p }))

-- No affordable plan of a file is lost: the plans that are affordable in the orders' table are those that are affordable in the table
-- that is left, and on a hopeless day there is none.
pub record NoPlanLost (file : List ℕ) : Type 0 where
  pub planned :
      (ts : List Ticket) (U : ℕ) (L : Table) (a : Planned file ts U L) (s : Plan) →
      Affordable (setting ts) U (orders_table ts (gather nothing a.rs)) s ↔ Affordable (setting ts) U L s
  pub hopeless :
      (h : HopelessDay file) (s : Plan) → Affordable (setting h.ts) (gather nothing h.rs).held.ceiling (orders_table h.ts (gather nothing h.rs)) s → ⊥
