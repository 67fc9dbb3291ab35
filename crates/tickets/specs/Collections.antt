-- What a collection holds, and when it refuses. Assumes nothing.
use Rattle.std.specs.Prelude.{◌≡◌, ℕ, ◌<◌, ◌≤◌, List, [], ◌∷◌, ◌++◌, map, length, Ok, Err, Result}
use Rattle.tickets.specs.declared.terms.Terms.{Terms}
use Rattle.tickets.specs.declared.ticket.Ticket.{Ticket}
use Rattle.tickets.specs.declared.collection.Collection.{Collection}
use Rattle.tickets.specs.declared.refusal.TicketRefusal.{TicketRefusal}
use Rattle.tickets.specs.declared.refusal.TicketRefusal.TheVariants.{OutsideLimits, TooManyTickets, CeilingTooHigh}
use Rattle.tickets.specs.Refusals.{Meaning, Answers, Clear}

-- terms within the limits of a ticket
pub record Fair (t : Terms) : Type 0 where
  pub ordered : t.first ≤ t.last
  pub day : t.last ≤ 255
  pub plays : 1 ≤ t.length
  pub short : t.length ≤ 16
  pub light : t.weight ≤ 1000

-- the terms that a ticket was posted with
abbrev pub terms_of : Ticket → Terms
terms_of t = record { first = t.first; last = t.last; length = t.length; weight = t.weight }

-- a ticket of these terms is asked for: there is one if they are within the limits, and else it is refused
abbrev pub Judged : Terms → Result Ticket TicketRefusal → Type 0
Judged terms (Ok t) = Fair terms × (terms_of t ≡ terms)
Judged terms (Err e) = (Fair terms → ⊥) × (e ≡ OutsideLimits)

-- the least ticket: one slot at slot 0, of no weight
abbrev pub IsLeast : Ticket → Type 0
IsLeast t = terms_of t ≡ record { first = 0; last = 0; length = 1; weight = 0 }

-- the tickets of a collection, in the order in which they were posted
abbrev pub posted : Collection → List Ticket
posted c = c.tickets.items

-- what a collection holds: the terms of its tickets in order, and its ceiling
pub record Held : Type 0 where
  pub tickets : List Terms
  pub ceiling : ℕ

abbrev pub held : Collection → Held
held c = record { tickets = map terms_of (posted c); ceiling = c.ceiling }

-- a new collection
abbrev pub no_tickets : Held
no_tickets = record { tickets = []; ceiling = 16777215 }

-- one ticket more
abbrev pub with_ticket : Held → Terms → Held
with_ticket h t = record { tickets = h.tickets ++ t ∷ []; ceiling = h.ceiling }

-- another ceiling
abbrev pub with_ceiling : Held → ℕ → Held
with_ceiling h u = record { tickets = h.tickets; ceiling = u }

-- what is asked of what a collection holds: to post a ticket, or to set the ceiling
pub data Asked : Type 0 where
  post : Held → Terms → Asked
  set_ceiling : Held → ℕ → Asked

-- a ticket outside the limits
abbrev pub Outside : Asked → Type 0
Outside (post h t) = Fair t → ⊥
Outside (set_ceiling h u) = ⊥

-- a 25th ticket
abbrev pub Full : Asked → Type 0
Full (post h t) = 24 ≤ length h.tickets
Full (set_ceiling h u) = ⊥

-- a ceiling above the limit
abbrev pub TooHigh : Asked → Type 0
TooHigh (post h t) = ⊥
TooHigh (set_ceiling h u) = 16777215 < u

-- each refusal: its number, and what meets it
abbrev pub meaning : TicketRefusal → Meaning Asked
meaning OutsideLimits = record { number = 8; meets = Outside }
meaning TooManyTickets = record { number = 9; meets = Full }
meaning CeilingTooHigh = record { number = 10; meets = TooHigh }

-- posting t to c answered, and left d: the next number and one ticket more, or the refusal and all as it was
abbrev pub Posted : Collection → Terms → Result ℕ TicketRefusal → Collection → Type 0
Posted c t (Ok n) d = Clear meaning (post (held c) t) × (n ≡ length (held c).tickets) × (held d ≡ with_ticket (held c) t)
Posted c t (Err e) d = Answers meaning (post (held c) t) e × (d ≡ c)

-- the same of setting the ceiling u
abbrev pub Limited : Collection → ℕ → Result Unit TicketRefusal → Collection → Type 0
Limited c u (Ok _) d = Clear meaning (set_ceiling (held c) u) × (held d ≡ with_ceiling (held c) u)
Limited c u (Err e) d = Answers meaning (set_ceiling (held c) u) e × (d ≡ c)
