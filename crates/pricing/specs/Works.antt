-- Working entries, and the tickets that they stand for. Assumes nothing.
use Rattle.std.specs.Prelude.{◌≡◌, ℕ, ◌<◌, ◌≤◌, Bool, false, List, length, slice_index_or, slice_set}
use Rattle.std.proofs.Common.{lit≤}
use Rattle.tickets.specs.declared.ticket.Ticket.{Ticket}
use Rattle.spreads.specs.Spreads.{ticket, release}
use Rattle.pricing.specs.declared.work.Work.{Work}
use Rattle.pricing.specs.declared.keys.Rank.{Rank}
use Rattle.pricing.specs.Keys.{higher}

-- what `entry` answers past the last entry; nothing hangs on it
abbrev pub blank : Work
blank = record { release = 0; weight = 0; length = 1; pinned = false; plays = lit≤ tt; short = lit≤ tt; light = lit≤ tt }

-- the working entry with the number i
abbrev pub entry : List Work → ℕ → Work
entry xs i = slice_index_or xs i blank

-- how the ticket i ranks
abbrev pub rank_of : List Work → ℕ → Rank
rank_of xs i = record { pinned = (entry xs i).pinned; weight = (entry xs i).weight; length = (entry xs i).length; number = i; plays = (entry xs i).plays }

-- the entry x with the release t and the mark b
abbrev pub released : Work → ℕ → Bool → Work
released x t b = record { release = t; weight = x.weight; length = x.length; pinned = b; plays = x.plays; short = x.short; light = x.light }

-- the entries, but entry i has the release t and the mark b
unfoldable pub moved : List Work → ℕ → ℕ → Bool → List Work
moved xs i t b = slice_set xs i (released (entry xs i) t b)

-- the entries stand for the tickets, ticket i released at r i and of the value v i: what does not rank higher has no greater value
pub record Stands (ts : List Ticket) (r v : ℕ → ℕ) (xs : List Work) : Type 0 where
  pub many : length xs ≡ length ts
  pub weights : (i : ℕ) → i < length ts → (entry xs i).weight ≡ (ticket ts i).weight
  pub lengths : (i : ℕ) → i < length ts → (entry xs i).length ≡ (ticket ts i).length
  pub releases : (i : ℕ) → i < length ts → (entry xs i).release ≡ r i
  pub ranks : (i j : ℕ) → i < length ts → j < length ts → higher (rank_of xs i) (rank_of xs j) ≡ false → v i ≤ v j

-- x is the entry of the ticket t, with the release r and the mark b
pub record EntryOf (t : Ticket) (r : ℕ) (b : Bool) (x : Work) : Type 0 where
  pub weight : x.weight ≡ t.weight
  pub length : x.length ≡ t.length
  pub release : x.release ≡ r
  pub pinned : x.pinned ≡ b

-- the entries are those of the first n tickets, with these releases and unmarked
pub record Made (ts : List Ticket) (rs : List ℕ) (n : ℕ) (xs : List Work) : Type 0 where
  pub many : length xs ≡ n
  pub made : (i : ℕ) → i < n → EntryOf (ticket ts i) (release rs i) false (entry xs i)
