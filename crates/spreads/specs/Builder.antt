-- The builder's rule, slot by slot in time order, and that what it builds is least. Assumes nothing.
use Rattle.std.specs.Prelude.{◌≡◌, ℕ, suc, ◌+◌, ◌-◌, ◌*◌, ◌<◌, ◌≤◌, List, map, length, ◌≢◌, slice_index, slice_set}
use Rattle.tickets.specs.declared.ticket.Ticket.{Ticket}
use Rattle.spreads.specs.Lines.{sum_to}
use Rattle.spreads.specs.Spreads.{value, half, release, LeastPrice}
use Rattle.spreads.specs.Pinned.{put, LeastPinned}

-- at slot t ticket i is released and unfinished; `left` has what is left to play of each ticket
abbrev pub Ready : List Ticket → (ℕ → ℕ) → ℕ → List ℕ → ℕ → Type 0
Ready ts r t left i = (i < length ts) × (r i ≤ t) × (0 < slice_index left i)

-- ticket j is ready, and none that is ready has a greater value
abbrev pub First : List Ticket → (ℕ → ℕ) → (ℕ → ℕ) → ℕ → List ℕ → ℕ → Type 0
First ts r v t left j = Ready ts r t left j × ((i : ℕ) → Ready ts r t left i → v i ≤ v j)

-- what is built from slot t on, with `left` to play, has the busy terms c: nothing is left; or nothing is ready and the slot is
-- idle; or the first of those that are ready plays in it
pub data Builds (ts : List Ticket) (r v : ℕ → ℕ) : ℕ → List ℕ → ℕ → Type 0 where
  ends : {t : ℕ} {left : List ℕ} → ((i : ℕ) → i < length ts → slice_index left i ≡ 0) → Builds ts r v t left 0
  idles : {t : ℕ} {left : List ℕ} {c : ℕ} → ((i : ℕ) → Ready ts r t left i → ⊥) → Builds ts r v (suc t) left c → Builds ts r v t left c
  plays : {t : ℕ} {left : List ℕ} {c : ℕ} (j : ℕ) → First ts r v t left j → Builds ts r v (suc t) (slice_set left j (slice_index left j - 1)) c → Builds ts r v t left (value ts j * t + c)

-- all that the tickets have to play
abbrev pub lengths : List Ticket → List ℕ
lengths ts = map (λ x. x.length) ts

-- the half terms of all tickets
abbrev pub halves : List Ticket → ℕ
halves ts = sum_to (length ts) (half ts)

-- what is built by the tickets' own values has the free price
abbrev pub BuiltFree : Type 0
BuiltFree = (ts : List Ticket) (rs : List ℕ) (c : ℕ) → Builds ts (release rs) (value ts) 0 (lengths ts) c → LeastPrice ts rs (halves ts + c)

-- what is built with ticket i released at t, and of a value above every other ticket's, has the pinned price
abbrev pub BuiltPinned : Type 0
BuiltPinned =
    (ts : List Ticket) (rs : List ℕ) (i t top c : ℕ) → i < length ts → ((j : ℕ) → j < length ts → (i ≢ j) → value ts j < top) →
    Builds ts (put (release rs) i t) (put (value ts) i top) 0 (lengths ts) c → LeastPinned ts rs i t (halves ts + c)
