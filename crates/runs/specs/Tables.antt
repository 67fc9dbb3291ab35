-- Tables of starts: what each supports, and which support themselves. Assumes nothing.
use Rattle.std.specs.Prelude.{◌≡◌, ℕ, ◌<◌, ◌≤◌, true, false, ◌&&◌, nat_le, nat_lt}
use Rattle.stores.specs.Sets.{Rows, Earliest, size_of}
use Rattle.spreads.specs.Lines.{sum_to}

-- a table gives each ticket a row, a set of starts: ticket, then start
abbrev pub Table : Type 0
Table = Rows

-- a plan gives each ticket one start
abbrev pub Plan : Type 0
Plan = ℕ → ℕ

-- what a planner is set over: so many tickets, the first and the last start of each, and two relations on them. `supports r i t U`:
-- where ticket j is released at r j, start t of ticket i is supported under the ceiling U. `affords s U`: no two tickets of the
-- plan s overlap, and its cost is at most U
pub record Setting : Type 1 where
  pub tickets : ℕ
  pub first : ℕ → ℕ
  pub last : ℕ → ℕ
  pub supports : (ℕ → ℕ) → ℕ → ℕ → ℕ → Type 0
  pub affords : Plan → ℕ → Type 0

-- the rows from first to last start; rows past the tickets are empty
abbrev pub posted : Setting → Table
posted w i t = nat_lt i w.tickets && (nat_le (w.first i) t && nat_le t (w.last i))

-- each row of T lies within that of S
abbrev pub Within : Table → Table → Type 0
Within T S = (i t : ℕ) → T i t ≡ true → S i t ≡ true

-- each ticket's row has a start
abbrev pub Full : Setting → Table → Type 0
Full w T = (i : ℕ) → i < w.tickets → (t : ℕ) × (T i t ≡ true)

-- each row past the tickets is empty
abbrev pub PastEmpty : Setting → Table → Type 0
PastEmpty w T = (i t : ℕ) → w.tickets ≤ i → T i t ≡ false

-- how many starts the tickets have
abbrev pub starts : Setting → Table → ℕ
starts w T = sum_to w.tickets (λ i. size_of (T i))

-- r releases each ticket at the least start of its row
abbrev pub Releases : Setting → Table → (ℕ → ℕ) → Type 0
Releases w T r = (i : ℕ) → i < w.tickets → Earliest (T i) 0 (r i)

-- under the ceiling U, start t of ticket i is supported by the table
abbrev pub Supported : Setting → ℕ → Table → ℕ → ℕ → Type 0
Supported w U T i t = (r : ℕ → ℕ) × Releases w T r × w.supports r i t U

-- each ticket's row has a start, and each start is supported by the table
pub record SelfSupporting (w : Setting) (U : ℕ) (T : Table) : Type 0 where
  pub full : Full w T
  pub supported : (i t : ℕ) → i < w.tickets → T i t ≡ true → Supported w U T i t

-- no self-supporting table lies within S
abbrev pub NoneWithin : Setting → ℕ → Table → Type 0
NoneWithin w U S = (T : Table) → SelfSupporting w U T → Within T S → ⊥

-- S was narrowed to R: R is within S, and each self-supporting table within S is within R
pub record Narrowed (w : Setting) (U : ℕ) (S R : Table) : Type 0 where
  pub within : Within R S
  pub keeps : (T : Table) → SelfSupporting w U T → Within T S → Within T R

-- L is the largest self-supporting table within S: it contains each other one there
pub record Largest (w : Setting) (U : ℕ) (S L : Table) : Type 0 where
  pub itself : SelfSupporting w U L
  pub within : Within L S
  pub contains : (T : Table) → SelfSupporting w U T → Within T S → Within T L

-- the plan s is affordable in the table: each start is in its row, and the ceiling affords it
pub record Affordable (w : Setting) (U : ℕ) (T : Table) (s : Plan) : Type 0 where
  pub chosen : (i : ℕ) → i < w.tickets → T i (s i) ≡ true
  pub afforded : w.affords s U
