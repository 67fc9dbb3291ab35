use Rattle.std.proofs.Common.{◌≡◌, refl, arith}
use Rattle.ticket_file.specs.declared.kind.Kind.{Kind}
use Rattle.ticket_file.specs.declared.kind.Kind.TheVariants.{Ticket, Ceiling, Ban}
use Rattle.ticket_file.specs.Readings.{letter}
use Rattle.ticket_file.proofs.Orders.{one_ticket, one_ceiling, one_ban, early, late}
use Rattle.ticket_file.proofs.stage.Stage.after.Goals as goal

no_ban : (k : Kind) → (k ≡ Ban → ⊥) → letter k ≡ 66 → ⊥
no_ban Ticket f e = omega arith
no_ban Ceiling f e = omega arith
no_ban Ban f e = f refl

pub returns-in-Tickets-Ticket : goal.returns-in-Tickets-Ticket
returns-in-Tickets-Ticket c = rw (c.in-Tickets-Ticket.is-0, c.in-Tickets-Ticket.is-1) one_ticket

pub returns-in-Tickets-Ceiling : goal.returns-in-Tickets-Ceiling
returns-in-Tickets-Ceiling c = rw (c.in-Tickets-Ceiling.is-0, c.in-Tickets-Ceiling.is-1) one_ceiling

pub returns-in-Bans-Ban : goal.returns-in-Bans-Ban
returns-in-Bans-Ban c = rw (c.in-Bans-Ban.is-0, c.in-Bans-Ban.is-1) one_ban

pub returns-in_default : goal.returns-in_default
returns-in_default c = rw (c.in_default.is-0, c.in_default.is-1) (λ ks h. (refl, early ks h))

pub returns-in_default-2 : goal.returns-in_default-2
returns-in_default-2 c = rw c.in_default.is-0 (λ ks h. (refl, late _ (no_ban _ c.in_default.not-Ban-1) ks h))
