-- Gathering records one by one, and their judge. Assumes nothing.
use Rattle.std.proofs.Common.{◌≡◌, ◌<◌, List, [], ◌∷◌, ◌++◌, refl, arith}
use Rattle.tickets.specs.declared.refusal.TicketRefusal.{TicketRefusal}
use Rattle.tickets.specs.declared.refusal.TicketRefusal.TheVariants.{OutsideLimits, TooManyTickets, CeilingTooHigh}
use Rattle.ticket_file.specs.Format.{Rec}
use Rattle.day.specs.Judging.{Gathered, with_record, gather, posting}

-- one record more
pub gather_push : (g : Gathered) (rs : List Rec) (r : Rec) → gather g (rs ++ r ∷ []) ≡ with_record (gather g rs) r
gather_push g [] r = refl
gather_push g (q ∷ rs) r = gather_push (with_record g q) rs r

-- the numbers of posting come after those of a file's form
pub later : (e : TicketRefusal) → 7 < (posting e).number
later OutsideLimits = omega arith
later TooManyTickets = omega arith
later CeilingTooHigh = omega arith

pub apart : (d e : TicketRefusal) → (posting d).number ≡ (posting e).number → d ≡ e
apart OutsideLimits OutsideLimits h = refl
apart OutsideLimits TooManyTickets h = cc
apart OutsideLimits CeilingTooHigh h = cc
apart TooManyTickets OutsideLimits h = cc
apart TooManyTickets TooManyTickets h = refl
apart TooManyTickets CeilingTooHigh h = cc
apart CeilingTooHigh OutsideLimits h = cc
apart CeilingTooHigh TooManyTickets h = cc
apart CeilingTooHigh CeilingTooHigh h = refl
