-- The contents of a file as they are gathered. Assumes nothing.
use Rattle.std.specs.Prelude.{◌≡◌, ℕ, map, Ok, Err, vec_items, Result}
use Rattle.tickets.specs.Refusals.{Answers, Clear}
use Rattle.tickets.specs.Collections.{held}
use Rattle.tickets.specs.declared.refusal.TicketRefusal.{TicketRefusal}
use Rattle.ticket_file.specs.Format.{Rec}
use Rattle.day.specs.declared.contents.Ban.{Ban}
use Rattle.day.specs.declared.contents.Contents.{Contents}
use Rattle.day.specs.declared.contents.GatherError.{GatherError}
use Rattle.day.specs.declared.contents.GatherError.TheVariants.{Refused, OutOfMemory}
use Rattle.day.specs.declared.fault.Refusal.TheVariants.{Ticket}
use Rattle.day.specs.Judging.{Gathered, with_record, judging}

abbrev pub banned : Ban → ℕ × ℕ
banned b = (b.ticket, b.start)

abbrev pub gathered : Contents → Gathered
gathered c = record { held = held c.collection; bans = map banned (vec_items c.bans) }

-- the record r at the place p was judged where g had been gathered, and h is left: it is taken in, refused with a
-- fault at its place, or there was no memory
abbrev pub Took : Gathered → Rec → ℕ → Result Unit GatherError → Gathered → Type 0
Took g r p (Ok _) h = Clear (judging g) r × (h ≡ with_record g r)
Took g r p (Err (Refused f)) h = ((e : TicketRefusal) × Answers (judging g) r e × (f ≡ record { refusal = Ticket e; place = p })) × (h ≡ g)
Took g r p (Err (OutOfMemory _)) h = h ≡ g
