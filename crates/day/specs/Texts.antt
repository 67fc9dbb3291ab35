-- The text of a listing and of a fault. Assumes nothing.
use Rattle.std.specs.Prelude.{◌≡◌, ℕ, ◌+◌, List, [], ◌∷◌, ◌++◌, map, codes, decimal}
use Rattle.std.specs.List.{flat_map}
use Rattle.tickets.specs.declared.terms.Terms.{Terms}
use Rattle.tickets.specs.declared.ticket.Ticket.{Ticket}
use Rattle.tickets.specs.Collections.{terms_of}
use Rattle.pricing.specs.Prices.{Floor, first_starts}
use Rattle.tickets.specs.declared.refusal.TicketRefusal.{TicketRefusal}
use Rattle.ticket_file.specs.Faults.{Reason, form, contents, fault}
use Rattle.day.specs.Judging.{Gathered, posting}

-- the line of the floor f
abbrev pub floor_line : ℕ → List ℕ
floor_line f = codes "floor " ++ (decimal f ++ 10 ∷ [])

-- the line of the ceiling u
abbrev pub ceiling_line : ℕ → List ℕ
ceiling_line u = codes "ceiling " ++ (decimal u ++ 10 ∷ [])

-- the row of the ticket k: its number, its first and its last start
abbrev pub row_line : ℕ → Terms → List ℕ
row_line k t = decimal k ++ (codes " " ++ (decimal t.first ++ (codes "-" ++ (decimal t.last ++ 10 ∷ []))))

-- the rows of tickets, numbered from k
abbrev pub rows : ℕ → List Terms → List ℕ
rows k [] = []
rows k (t ∷ ts) = row_line k t ++ rows (k + 1) ts

-- a ban as it prints
abbrev pub ban_text : ℕ × ℕ → List ℕ
ban_text (i, s) = codes "ban " ++ (decimal i ++ (codes " " ++ decimal s))

-- the line of a ban
abbrev pub ban_line : ℕ × ℕ → List ℕ
ban_line (i, s) = codes "ban " ++ (decimal i ++ (codes " " ++ (decimal s ++ 10 ∷ [])))

-- what comes after the floor: the ceiling, a row for each ticket, a line for each ban
abbrev pub gathered_lines : Gathered → List ℕ
gathered_lines g = ceiling_line g.held.ceiling ++ (rows 0 g.held.tickets ++ flat_map ban_line g.bans)

-- f is the floor of tickets with these terms, each released at its first start
abbrev pub FloorOf : List Terms → ℕ → Type 0
FloorOf terms f = (ts : List Ticket) × (map terms_of ts ≡ terms) × Floor ts (first_starts ts) f

-- the listing of what was gathered: the floor of the rows as posted, and the other lines
abbrev pub Lists : Gathered → List ℕ → Type 0
Lists g text = (f : ℕ) × FloorOf g.held.tickets f × (text ≡ floor_line f ++ gathered_lines g)

-- the name of the layer of a reason
abbrev pub layer : Reason TicketRefusal → List ℕ
layer (form f) = codes "file"
layer (contents e) = codes "ticket"

-- a fault as it prints: its layer, number and place
abbrev pub fault_text : Reason TicketRefusal → ℕ → List ℕ
fault_text w p = codes "fault " ++ (layer w ++ (codes " " ++ (decimal (fault posting w).number ++ (codes " " ++ decimal p))))

-- the line of a fault: its layer, number and place
abbrev pub fault_line : Reason TicketRefusal → ℕ → List ℕ
fault_line w p = codes "fault " ++ (layer w ++ (codes " " ++ (decimal (fault posting w).number ++ (codes " " ++ (decimal p ++ 10 ∷ [])))))
