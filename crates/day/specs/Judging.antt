-- What the records of a file come to, and how their contents are judged. Assumes nothing.
use Rattle.std.specs.Prelude.{ℕ, List, [], ◌∷◌, ◌++◌}
use Rattle.tickets.specs.Refusals.{Meaning}
use Rattle.tickets.specs.Collections.{Held, no_tickets, with_ticket, with_ceiling, post, set_ceiling, meaning}
use Rattle.tickets.specs.declared.refusal.TicketRefusal.{TicketRefusal}
use Rattle.ticket_file.specs.Format.{Rec, ticket, ceiling, ban}
use Rattle.ticket_file.specs.Faults.{Judge, Reason, form, contents}
use Rattle.day.specs.declared.fault.Refusal.{Refusal}
use Rattle.day.specs.declared.fault.Refusal.TheVariants.{File, Ticket}

-- what records come to: a collection, and the tickets and starts to ban, in order
pub record Gathered : Type 0 where
  pub held : Held
  pub bans : List (ℕ × ℕ)

abbrev pub nothing : Gathered
nothing = record { held = no_tickets; bans = [] }

-- one record more
abbrev pub with_record : Gathered → Rec → Gathered
with_record g (ticket t label) = record { held = with_ticket g.held t; bans = g.bans }
with_record g (ceiling u) = record { held = with_ceiling g.held u; bans = g.bans }
with_record g (ban i s) = record { held = g.held; bans = g.bans ++ (i, s) ∷ [] }

-- records one after the other
abbrev pub gather : Gathered → List Rec → Gathered
gather g [] = g
gather g (r ∷ rs) = gather (with_record g r) rs

-- the record asks for something that meets the refusal: a ticket to be posted, the ceiling to be set
abbrev pub Refuses : TicketRefusal → Gathered → Rec → Type 0
Refuses e g (ticket t label) = (meaning e).meets (post g.held t)
Refuses e g (ceiling u) = (meaning e).meets (set_ceiling g.held u)
Refuses e g (ban i s) = ⊥

-- how a record is judged once these have been gathered
abbrev pub judging : Gathered → TicketRefusal → Meaning Rec
judging g e = record { number = (meaning e).number; meets = Refuses e g }

-- the judge that posts each record to what those before it came to
abbrev pub posting : Judge TicketRefusal
posting e = record { number = (meaning e).number; meets = λ (rs, r). Refuses e (gather nothing rs) r }

-- the reason that a refusal stands for
abbrev pub reason : Refusal → Reason TicketRefusal
reason (File f) = form f
reason (Ticket e) = contents e
