-- How the contents of a ticket file are judged on the way to a planner. Assumes nothing.
use Rattle.std.specs.Prelude.{◌≡◌, ℕ, List, map, reverse}
use Rattle.tickets.specs.Collections.{terms_of, meaning}
use Rattle.tickets.specs.Planner.{number_of}
use Rattle.tickets.specs.declared.ticket.Ticket.{Ticket}
use Rattle.tickets.specs.declared.refusal.TicketRefusal.{TicketRefusal}
use Rattle.tickets.specs.declared.planner_refusal.PlannerRefusal.{PlannerRefusal}
use Rattle.ticket_file.specs.Format.{Rec, ticket, ceiling, ban as ban_record}
use Rattle.ticket_file.specs.Faults.{Judge, Reason, form, contents}
use Rattle.day.specs.Judging.{Gathered, nothing, gather, Refuses as PostingRefuses}
use Rattle.runs.specs.Tables.{Table}
use Rattle.runs.specs.Supports.{setting}
use Rattle.runs.specs.Orders.{Order, ban, ordered}
use Rattle.runs.specs.Planner.{State, sealed, with_table, Meets}
use Rattle.runs.specs.declared.call.Call.TheVariants.{Ban}
use Rattle.planned.specs.declared.fault.Refusal.{Refusal}
use Rattle.planned.specs.declared.fault.Refusal.TheVariants.{File, Ticket as OfTicket, Planner as OfPlanner}

-- why the contents of a file are refused: by the collection that is posted to, or by the planner
pub data Cause : Type 0 where
  collecting : TicketRefusal → Cause
  planning : PlannerRefusal → Cause

-- ts are the tickets that were gathered
abbrev pub Posts : Gathered → List Ticket → Type 0
Posts g ts = map terms_of ts ≡ g.held.tickets

-- the order that a ban gives
abbrev pub order : ℕ × ℕ → Order
order (i, t) = ban i t

-- the orders that the bans give, newest first
abbrev pub orders : Gathered → List Order
orders g = map order (reverse g.bans)

-- the orders' table: the posted rows of the tickets ts, less the banned starts
abbrev pub orders_table : List Ticket → Gathered → Table
orders_table ts g = ordered (setting ts) (orders g)

-- a planner that was sealed over the tickets ts under the ceiling, and has taken the bans; every planner has the stamp 0
abbrev pub banned : List Ticket → Gathered → State
banned ts g = with_table (sealed (setting ts) 0 g.held.ceiling) (orders_table ts g)

-- after these were gathered, the record asks for something that meets the cause: a ticket to be posted or the ceiling to be set, of the
-- collection; a start to be banned, of the planner
abbrev pub Refuses : Cause → Gathered → Rec → Type 0
Refuses (collecting e) g r = PostingRefuses e g r
Refuses (planning e) g (ticket t label) = ⊥
Refuses (planning e) g (ceiling u) = ⊥
Refuses (planning e) g (ban_record i t) = (ts : List Ticket) × Posts g ts × Meets (setting ts) (banned ts g) e (Ban i t)

-- the number of each cause
abbrev pub numbered : Cause → ℕ
numbered (collecting e) = (meaning e).number
numbered (planning e) = number_of e

-- the judge that posts each ticket, sets the ceiling, and has a planner take each ban, after the records before it
abbrev pub judge : Judge Cause
judge c = record { number = numbered c; meets = λ (rs, r). Refuses c (gather nothing rs) r }

-- the reason that a refusal stands for
abbrev pub reason : Refusal → Reason Cause
reason (File f) = form f
reason (OfTicket e) = contents (collecting e)
reason (OfPlanner e) = contents (planning e)
