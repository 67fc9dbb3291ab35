-- What holds between two events. Assumes nothing.
use Rattle.std.proofs.Common.{◌≡◌, ℕ, ◌+◌, ◌*◌, ◌<◌, ◌≤◌, false, ◌⊎◌, List, length, get_or, Some, None, Option}
use Rattle.std.specs.List.{AllByRecursion}
use Rattle.tickets.specs.declared.ticket.Ticket.{Ticket}
use Rattle.spreads.specs.Builder.{Builds, lengths}
use Rattle.pricing.specs.declared.work.Work.{Work}
use Rattle.pricing.specs.declared.keys.Release.{Release}
use Rattle.pricing.specs.declared.keys.Rank.{Rank}
use Rattle.pricing.specs.declared.step.Playing.{Playing as Played}
use Rattle.pricing.specs.Keys.{higher}
use Rattle.pricing.specs.Works.{entry, rank_of, Stands}
use Rattle.pricing.specs.Terms.{most_stretch}
use Rattle.pricing.specs.Steps.{In, Coming, Ours, busy}

-- what the builder is at: nothing plays since a moment, or a ticket plays since then
pub data State : Type 0 where
  Idle : ℕ → State
  Playing : ℕ → ℕ → State

-- what plays
abbrev pub playing_in : State → Option Played
playing_in (Idle s) = None
playing_in (Playing j s) = Some (record { ticket = j; since = s })

-- since when it plays, or is idle
abbrev pub start : State → ℕ
start (Idle s) = s
start (Playing j s) = s

abbrev pub Waits : List Rank → ℕ → Type 0
Waits R i = In (λ (x : Rank). x.number) R i

abbrev pub Plays : State → ℕ → Type 0
Plays (Idle s) i = ⊥
Plays (Playing j s) i = i ≡ j

-- x is the rank of one of the entries
abbrev pub Rated : List Work → Rank → Type 0
Rated xs x = (x.number < length xs) × (x ≡ rank_of xs x.number)

-- x was released by the moment t, and does not rank above the ticket j
abbrev pub Under : List Work → ℕ → ℕ → Rank → Type 0
Under xs t j x = ((entry xs x.number).release ≤ t) × (higher x (rank_of xs j) ≡ false)

-- what waits does not outrank what plays, and nothing waits where nothing plays; clock is the moment of the last event
abbrev pub On : List Work → List Rank → List ℕ → ℕ → State → Type 0
On xs R left clock (Idle s) = length R ≡ 0
On xs R left clock (Playing j s) = (j < length xs) × ((entry xs j).release ≤ s) × (clock ≤ s + get_or left j 0) × AllByRecursion (Under xs clock j) R

-- at most so many events are to come
abbrev pub events : Option Played → ℕ → ℕ → ℕ
events playing m n = 2 * m + n + busy playing

pub record Going (xs : List Work) (state : State) (C : List Release) (R : List Rank) (left : List ℕ) (spent : ℕ) : Type 0 where
  pub places : length left ≡ 24
  pub count : length C + length R + busy (playing_in state) ≤ length xs
  pub few : length xs ≤ 24
  pub coming : AllByRecursion (Ours xs (length xs)) C
  pub ready : AllByRecursion (Rated xs) R
  pub short : (i : ℕ) → get_or left i 0 ≤ 16
  pub clock : ℕ
  pub begun : start state ≤ clock
  pub later : AllByRecursion (λ x. clock ≤ x.slot) C
  pub held : (i : ℕ) → i < length xs → 0 < get_or left i 0 → Coming C i ⊎ (Waits R i ⊎ Plays state i)
  pub on : On xs R left clock state
  pub soon : start state + 16 * events (playing_in state) (length C) (length R) ≤ 255 + 16 * 48
  pub cheap : spent + events (playing_in state) (length C) (length R) * most_stretch ≤ 48 * most_stretch
  pub so_far : (ts : List Ticket) (r v : ℕ → ℕ) → Stands ts r v xs → (c : ℕ) → Builds ts r v (start state) left c → Builds ts r v 0 (lengths ts) (spent + c)

-- the same, by what plays
abbrev pub GoingOn : List Work → Option Played → List Release → List Rank → List ℕ → ℕ → Type 0
GoingOn xs playing C R left spent = (st : State) × (playing ≡ playing_in st) × Going xs st C R left spent
