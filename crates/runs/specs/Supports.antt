-- The starts that tickets and a ceiling support, the plans that they afford, and the laws of both. Assumes nothing.
use Rattle.std.specs.Prelude.{ℕ, ◌*◌, ◌<◌, ◌≤◌, ◌↔◌, List, length, ◌≢◌}
use Rattle.tickets.specs.declared.ticket.Ticket.{Ticket}
use Rattle.spreads.specs.Lines.{Slot}
use Rattle.spreads.specs.Spreads.{ticket, price, release}
use Rattle.spreads.specs.Pinned.{PinnedSpread, LeastPinned}
use Rattle.spreads.specs.Plans.{Apart, cost}
use Rattle.runs.specs.Tables.{Table, Plan, Setting, Releases, Supported}

-- some spread with ticket i pinned at t, the others released at r, has a price of at most 720720 * U
abbrev pub Supports : List Ticket → (ℕ → ℕ) → ℕ → ℕ → ℕ → Type 0
Supports ts r i t U = (L : List Slot) × PinnedSpread ts r i t L × (price ts L ≤ 720720 * U)

-- no two tickets of the plan s overlap, and its cost is at most U
pub record Affords (ts : List Ticket) (s : Plan) (U : ℕ) : Type 0 where
  pub apart : Apart ts s
  pub cheap : cost ts s ≤ U

-- what a planner of these tickets is set over
abbrev pub setting : List Ticket → Setting
setting ts = record {
  tickets = length ts;
  first = λ i. (ticket ts i).first;
  last = λ i. (ticket ts i).last;
  supports = Supports ts;
  affords = Affords ts;
}

-- the laws of support, for these tickets
pub record LawsOf (ts : List Ticket) : Type 0 where
  -- what releases support, lower ones of the other tickets support
  pub fall : (r r' : ℕ → ℕ) (i t U : ℕ) → ((j : ℕ) → j < length ts → (i ≢ j) → r' j ≤ r j) → Supports ts r i t U → Supports ts r' i t U
  -- what a ceiling supports, a higher one supports
  pub rise : (r : ℕ → ℕ) (i t U V : ℕ) → U ≤ V → Supports ts r i t U → Supports ts r i t V
  -- the starts of an affordable plan, as releases, support each of them
  pub plan : (s : Plan) (U : ℕ) → Affords ts s U → (i : ℕ) → i < length ts → Supports ts s i (s i) U
  -- supported exactly when the pinned price is at most 720720 * U
  pub priced : (rs : List ℕ) (i t c U : ℕ) → LeastPinned ts rs i t c → Supports ts (release rs) i t U ↔ (c ≤ 720720 * U)
  -- the same of a table, with the pinned price at its releases
  pub in_table :
      (T : Table) (rs : List ℕ) (i t c U : ℕ) → Releases (setting ts) T (release rs) → LeastPinned ts rs i t c →
      Supported (setting ts) U T i t ↔ (c ≤ 720720 * U)

-- so for every list of tickets
abbrev pub SupportLaws : Type 0
SupportLaws = (ts : List Ticket) → LawsOf ts
