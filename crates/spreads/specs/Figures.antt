-- Worked days: their prices, as figures. Assumes nothing.
use Rattle.std.specs.Prelude.{◌≡◌, ℕ, ◌+◌, ◌*◌, ◌/◌, ◌<◌, T, List, [], ◌∷◌, length, nat_le}
use Rattle.std.proofs.Common.{lit≤}
use Rattle.std.specs.List.{AllByRecursion}
use Rattle.tickets.specs.declared.ticket.Ticket.{Ticket}
use Rattle.spreads.specs.Spreads.{LeastPrice}
use Rattle.spreads.specs.Pinned.{LeastPinned}

-- the ticket with first start f, last start l, length p and weight w
abbrev pub new_ticket : (f l p w : ℕ) → T (nat_le f l) → T (nat_le 1 p) → T (nat_le p 16) → T (nat_le w 1000) → Ticket
new_ticket f l p w a b c d = record { first = f; last = l; length = p; weight = w; ordered = lit≤ a; plays = lit≤ b; short = lit≤ c; light = lit≤ d }

-- the tickets of a day, and their releases
pub record Day : Type 0 where
  pub tickets : List Ticket
  pub releases : List ℕ

-- a price divided by 720720, rounded up
abbrev pub in_costs : ℕ → ℕ
in_costs c = (c + 720719) / 720720

-- a figure of a day: its free price, its floor, or the pinned price of a ticket at a slot
pub data Figure : Type 0 where
  free : ℕ → Figure
  floor : ℕ → Figure
  pinned : ℕ → ℕ → ℕ → Figure

-- what the figure says of the day
abbrev pub Says : Day → Figure → Type 0
Says d (free c) = LeastPrice d.tickets d.releases c
Says d (floor f) = (c : ℕ) × LeastPrice d.tickets d.releases c × (in_costs c ≡ f)
Says d (pinned i t c) = (i < length d.tickets) × LeastPinned d.tickets d.releases i t c

abbrev pub day_one : Day
day_one = record { tickets = new_ticket 0 10 5 10 tt tt tt tt ∷ new_ticket 4 8 2 10 tt tt tt tt ∷ new_ticket 5 9 4 12 tt tt tt tt ∷ new_ticket 13 15 2 8 tt tt tt tt ∷ []; releases = 0 ∷ 4 ∷ 5 ∷ 13 ∷ [] }

abbrev pub day_two : Day
day_two = record { tickets = new_ticket 0 4 4 1 tt tt tt tt ∷ new_ticket 1 3 1 3 tt tt tt tt ∷ []; releases = 0 ∷ 1 ∷ [] }

abbrev pub no_tickets : Day
no_tickets = record { tickets = []; releases = [] }

-- two tickets that overlap in every plan
abbrev pub twins : Day
twins = record { tickets = new_ticket 0 0 1 1 tt tt tt tt ∷ new_ticket 0 0 1 1 tt tt tt tt ∷ []; releases = 0 ∷ 0 ∷ [] }

-- the latest start, the greatest length and the greatest weight
abbrev pub latest : Day
latest = record { tickets = new_ticket 255 255 16 1000 tt tt tt tt ∷ []; releases = 255 ∷ [] }

-- the table of figures; on day two ticket 1 is pinned before its release
abbrev pub figures : List (Day × Figure)
figures =
    (day_one, free 260900640)
    ∷ (day_one, floor 362)
    ∷ (day_one, pinned 0 0 (372 * 720720))
    ∷ (day_one, pinned 0 1 (404 * 720720))
    ∷ (day_one, pinned 2 5 (370 * 720720))
    ∷ (day_one, pinned 2 7 (366 * 720720))
    ∷ (day_one, pinned 2 8 (378 * 720720))
    ∷ (day_two, free 7747740)
    ∷ (day_two, floor 11)
    ∷ (day_two, pinned 1 0 (8 * 720720))
    ∷ (no_tickets, free 0)
    ∷ (no_tickets, floor 0)
    ∷ (twins, free (3 * 720720))
    ∷ (twins, pinned 1 0 (3 * 720720))
    ∷ (latest, free (271000 * 720720))
    ∷ (latest, pinned 0 255 (271000 * 720720))
    ∷ []

-- each says what is so
abbrev pub FiguresHold : Type 0
FiguresHold = AllByRecursion (λ x. Says x.0 x.1) figures
