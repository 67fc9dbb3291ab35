-- The ledger: the orders in force and the ceiling, told by the calls and whether each was taken. Assumes nothing.
use Rattle.std.specs.Prelude.{ℕ, Bool, true, false, List, [], ◌∷◌, ◌++◌}
use Rattle.runs.specs.Tables.{Table, Setting}
use Rattle.runs.specs.Orders.{Order, ban, fix, ordered}
use Rattle.runs.specs.declared.call.Call.{Call}
use Rattle.runs.specs.declared.call.Call.TheVariants.{Ban, Fix, Lower, Mark, Keep, Undo, Prune}

-- the newest page, the pages below it, newest first, and the ceiling; a page is a list of orders
pub record Ledger : Type 0 where
  pub page : List Order
  pub below : List (List Order)
  pub ceiling : ℕ

-- at sealing: one empty page
abbrev pub opened : ℕ → Ledger
opened U = record { page = []; below = []; ceiling = U }

-- the orders on these pages
abbrev pub together : List (List Order) → List Order
together [] = []
together (p ∷ ps) = p ++ together ps

-- the orders in force: those on any page
abbrev pub in_force : Ledger → List Order
in_force L = L.page ++ together L.below

-- the orders' table
abbrev pub orders_table : Setting → Ledger → Table
orders_table w L = ordered w (in_force L)

-- an order is written on the newest page
abbrev pub write : Order → Ledger → Ledger
write o L = record { page = o ∷ L.page; below = L.below; ceiling = L.ceiling }

-- the newest page's orders move to the page below, and the emptied page goes
abbrev pub join : List Order → List (List Order) → ℕ → Ledger
join page [] U = record { page = page; below = []; ceiling = U }
join page (p ∷ ps) U = record { page = page ++ p; below = ps; ceiling = U }

-- the newest page is dropped with its orders
abbrev pub drop : List Order → List (List Order) → ℕ → Ledger
drop page [] U = record { page = page; below = []; ceiling = U }
drop page (p ∷ ps) U = record { page = p; below = ps; ceiling = U }

-- what the ledger makes of a call that was taken
abbrev pub noted : Call → Ledger → Ledger
noted (Ban i t) L = write (ban i t) L
noted (Fix i t) L = write (fix i t) L
noted (Lower u) L = record { page = L.page; below = L.below; ceiling = u }
noted Mark L = record { page = []; below = L.page ∷ L.below; ceiling = L.ceiling }
noted (Keep stamp level) L = join L.page L.below L.ceiling
noted (Undo stamp level) L = drop L.page L.below L.ceiling
noted (Prune room) L = L

-- all that the ledger is fed: a call with its arguments, and whether it was taken
pub record Heard : Type 0 where
  pub call : Call
  pub taken : Bool

-- a refused call leaves the ledger alone
abbrev pub entered : Call → Bool → Ledger → Ledger
entered c true L = noted c L
entered c false L = L

-- the ledger after what was heard since sealing, newest first
abbrev pub ledger : ℕ → List Heard → Ledger
ledger U [] = opened U
ledger U (h ∷ hs) = entered h.call h.taken (ledger U hs)
