use Rattle.std.proofs.Common.{ℕ, ◌<◌, ◌≤◌, List, length, ap, arith}
use Rattle.tickets.specs.declared.ticket.Ticket.{Ticket}
use Rattle.tickets.specs.declared.planner_refusal.PlannerRefusal.TheVariants.{NoSuchTicket, NoSuchStart, OnlyStart, CeilingNotLower, TooManyLevels, StaleToken, TooShort, PlanLength, Overlap, CostTooHigh, Hopeless}
use Rattle.tickets.specs.Collections.{posted}
use Rattle.tickets.specs.Refusals.{Clear}
use Rattle.pricing.specs.Prices.{meaning}
use Rattle.pricing.proofs.Making.{pinned_made}
use Rattle.pricing.proofs.prices.Released.pinned_price.Goals as goal

clear : (ts : List Ticket) (i t : ℕ) → i < length ts → t ≤ 255 → Clear meaning (record { tickets = ts; ticket = i; start = t })
clear ts i t h k NoSuchTicket m = omega arith
clear ts i t h k NoSuchStart m = omega arith
clear ts i t h k OnlyStart m = m
clear ts i t h k CeilingNotLower m = m
clear ts i t h k TooManyLevels m = m
clear ts i t h k StaleToken m = m
clear ts i t h k TooShort m = m
clear ts i t h k PlanLength m = m
clear ts i t h k Overlap m = m
clear ts i t h k CostTooHigh m = m
clear ts i t h k Hopeless m = m

pub returns : goal.returns
returns c =
    let ts = posted c.args.self.now.collection.now in
    let i = c.args.ticket in
    let t = c.args.start in
    let known : i < length ts = omega (arith, ap length c.tickets.ensures) in
    (clear ts i t known (omega arith), pinned_made ts c.args.self.now.releases _ c.works.ensures i t c.build_pinned.result known c.build_pinned.ensures.price)
