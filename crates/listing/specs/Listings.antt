-- The listing of a table, and when writing it is refused. Assumes nothing.
use Rattle.std.specs.Prelude.{◌≡◌, ℕ, ◌<◌, List, ◌++◌, length, drop, Ok, Err, Result}
use Rattle.tickets.specs.declared.ticket.Ticket.{Ticket}
use Rattle.tickets.specs.declared.planner_refusal.PlannerRefusal.{PlannerRefusal}
use Rattle.tickets.specs.declared.planner_refusal.PlannerRefusal.TheVariants.{NoSuchTicket, NoSuchStart, OnlyStart, CeilingNotLower, TooManyLevels, StaleToken, TooShort, PlanLength, Overlap, CostTooHigh, Hopeless}
use Rattle.tickets.specs.Planner.{number_of}
use Rattle.tickets.specs.Refusals.{Meaning, Answers, Clear}
use Rattle.stores.specs.Sets.{Rows}
use Rattle.queries.specs.TablePrices.{FloorAnswer}
use Rattle.listing.specs.declared.range.Range.{Range}
use Rattle.listing.specs.Ranges.{TableRanges}
use Rattle.listing.specs.Texts.{listing_text}

-- the text is the listing of the tickets ts under the ceiling u, with the rows R
pub record Lists (ts : List Ticket) (u : ℕ) (R : Rows) (text : List ℕ) : Type 0 where
  pub floor : ℕ
  pub ranges : List (List Range)
  pub is_floor : FloorAnswer ts R floor
  pub are_ranges : TableRanges R (length ts) ranges
  pub is : text ≡ listing_text floor u ranges

-- a table has one listing
abbrev pub OneListing : Type 0
OneListing = (ts : List Ticket) (u : ℕ) (R : Rows) (a b : List ℕ) → Lists ts u R a → Lists ts u R b → a ≡ b

-- what is asked: the listing of a table, in a buffer
pub record Asked : Type 0 where
  pub tickets : List Ticket
  pub ceiling : ℕ
  pub rows : Rows
  pub buffer : List ℕ

-- a refusal that no listing answers
abbrev pub never : PlannerRefusal → Meaning Asked
never e = record { number = number_of e; meets = λ _. ⊥ }

-- the buffer is shorter than the listing
abbrev pub Shorter : Asked → Type 0
Shorter a = (text : List ℕ) × Lists a.tickets a.ceiling a.rows text × (length a.buffer < length text)

-- each refusal: its number, and what meets it
abbrev pub meaning : PlannerRefusal → Meaning Asked
meaning NoSuchTicket = never NoSuchTicket
meaning NoSuchStart = never NoSuchStart
meaning OnlyStart = never OnlyStart
meaning CeilingNotLower = never CeilingNotLower
meaning TooManyLevels = never TooManyLevels
meaning StaleToken = never StaleToken
meaning TooShort = record { number = number_of TooShort; meets = Shorter }
meaning PlanLength = never PlanLength
meaning Overlap = never Overlap
meaning CostTooHigh = never CostTooHigh
meaning Hopeless = never Hopeless

-- n bytes of the listing stand at the front of the buffer, and what stood after them stands there still
pub record Written (ts : List Ticket) (u : ℕ) (R : Rows) (old : List ℕ) (n : ℕ) (new : List ℕ) : Type 0 where
  pub text : List ℕ
  pub lists : Lists ts u R text
  pub whole : n ≡ length text
  pub placed : new ≡ text ++ drop n old

-- the answer for the buffer `old`, which becomes `new`: the length of the listing, where nothing is refused, or the refusal
abbrev pub Listed : List Ticket → ℕ → Rows → List ℕ → Result ℕ PlannerRefusal → List ℕ → Type 0
Listed ts u R old (Ok n) new = Clear meaning (record { tickets = ts; ceiling = u; rows = R; buffer = old }) × Written ts u R old n new
Listed ts u R old (Err e) new = Answers meaning (record { tickets = ts; ceiling = u; rows = R; buffer = old }) e × (new ≡ old)
