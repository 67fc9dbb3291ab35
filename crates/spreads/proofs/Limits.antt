-- How large the parts of a price can be. Assumes nothing.
use Rattle.std.proofs.Common.{ℕ, ◌+◌, ◌*◌, ◌/◌, ◌≤◌, List, mul-le-mul, mul-le-mul_left, arith}
use Rattle.tickets.specs.declared.ticket.Ticket.{Ticket}
use Rattle.spreads.specs.Spreads.{ticket, value, half}
use Rattle.spreads.proofs.Table.{divides}

-- a quotient is at most 720720
pub quotient_le : (p : ℕ) → 1 ≤ p → p ≤ 16 → 720720 / p ≤ 720720
quotient_le p l h = omega (arith, divides p l h, mul-le-mul_left (720720 / p) l)

pub value_le : (ts : List Ticket) (i : ℕ) → value ts i ≤ 1000 * 720720
value_le ts i = let x = ticket ts i in mul-le-mul x.light (quotient_le x.length x.plays x.short)

pub half_le : (ts : List Ticket) (i : ℕ) → half ts i ≤ 1000 * 17 * 360360
half_le ts i =
    let x = ticket ts i in
    let short : x.length + 1 ≤ 17 = omega (arith, x.short) in
    omega (arith, mul-le-mul x.light short)
