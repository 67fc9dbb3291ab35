-- To compare w / p by products is to compare values. Assumes nothing.
use Rattle.std.specs.Prelude.{ℕ, ◌*◌, ◌<◌, List}
use Rattle.tickets.specs.declared.ticket.Ticket.{Ticket}
use Rattle.spreads.specs.Spreads.{ticket, value}

-- w / p of i is greater than that of j, by products
abbrev pub Denser : List Ticket → ℕ → ℕ → Type 0
Denser ts i j = (ticket ts j).weight * (ticket ts i).length < (ticket ts i).weight * (ticket ts j).length

-- that holds exactly where the value of i is greater
abbrev pub RankByProducts : Type 0
RankByProducts = (ts : List Ticket) (i j : ℕ) → (Denser ts i j → value ts j < value ts i) × (value ts j < value ts i → Denser ts i j)
