-- A planner that takes bans, one after the other. Assumes nothing.
use Rattle.std.specs.Prelude.{◌≡◌, ℕ, List, [], Ok, Err, Result}
use Rattle.tickets.specs.Collections.{held, posted}
use Rattle.tickets.specs.declared.planner_refusal.PlannerRefusal.{PlannerRefusal}
use Rattle.ticket_file.specs.Format.{Rec, ticket, ceiling, ban, Begins, kinds}
use Rattle.ticket_file.specs.Faults.{Taken}
use Rattle.ticket_file.specs.declared.record.Placed.{Placed}
use Rattle.day.specs.Judging.{Gathered, nothing, gather, posting}
use Rattle.stores.specs.BitRows.{bit_rows}
use Rattle.stores.specs.declared.bit_store.BitStore.{BitStore}
use Rattle.runs.specs.Ledger.{Ledger}
use Rattle.runs.specs.Whole.{History, Reached, told}
use Rattle.runs.specs.declared.call.Call.TheVariants.{Ban}
use Rattle.runs.specs.declared.call.Taken.TheVariants.{Done}
use Rattle.planner.specs.declared.state.Planner.{Planner}
use Rattle.planner.specs.States.{setting_of, state_of}
use Rattle.planner.specs.Calls.{Moved}
use Rattle.planned.specs.declared.fault.Fault.{Fault}
use Rattle.planned.specs.declared.fault.Refusal.TheVariants.{Planner as OfPlanner}
use Rattle.planned.specs.Judging.{planning, orders, banned, judge}
use Rattle.planned.specs.Records.{recs, FirstRefused}

-- the record r at the place p was judged by the planner m, and n is left: a ban is a call, and other records change nothing
abbrev pub Judged : Planner BitStore → Rec → ℕ → Result Unit Fault → Planner BitStore → Type 0
Judged m (ban i t) p (Ok _) n = Moved bit_rows m (Ban i t) (Ok Done) n
Judged m (ban i t) p (Err f) n = (e : PlannerRefusal) × Moved bit_rows m (Ban i t) (Err e) n × (f ≡ record { refusal = OfPlanner e; place = p })
Judged m (ticket t label) p (Ok _) n = n ≡ m
Judged m (ticket t label) p (Err f) n = ⊥
Judged m (ceiling u) p (Ok _) n = n ≡ m
Judged m (ceiling u) p (Err f) n = ⊥

-- the ledger of a planner that has taken the bans
abbrev pub ledger_of : Gathered → Ledger
ledger_of g = record { page = orders g; below = []; ceiling = g.held.ceiling }

-- the planner m has the tickets and the ceiling of g, and has taken its bans
pub record Stands (g : Gathered) (m : Planner BitStore) : Type 0 where
  pub collection : held m.collection ≡ g.held
  pub state : state_of bit_rows m ≡ banned (posted m.collection) g
  pub history : History
  pub reached : Reached (setting_of m) history (state_of bit_rows m)
  pub told : told history ≡ ledger_of g

-- the records come in order, they are posted, and the planner m is sealed over them
pub record Ready (xs : List Placed) (m : Planner BitStore) : Type 0 where
  pub order : Begins (kinds (recs xs))
  pub posted : Taken posting (recs xs)
  pub stands : Stands (record { held = (gather nothing (recs xs)).held; bans = [] }) m

-- all of the records are taken, their bans by the planner n; or the first ban that is refused is the fault
abbrev pub BannedAll : List Placed → Result Unit Fault → Planner BitStore → Type 0
BannedAll xs (Ok _) n = Taken judge (recs xs) × Stands (gather nothing (recs xs)) n
BannedAll xs (Err f) n = (e : PlannerRefusal) × FirstRefused judge xs (planning e) f.place × (f.refusal ≡ OfPlanner e)
