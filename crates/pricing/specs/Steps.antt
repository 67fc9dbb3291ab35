-- What the steps of the builder find. Assumes nothing.
use Rattle.std.specs.Prelude.{◌≡◌, ℕ, ◌+◌, ◌<◌, ◌≤◌, List, ◌∷◌, length, Some, None, Option, slice_index}
use Rattle.std.specs.List.{ContainsAt, AllByRecursion}
use Rattle.std.specs.List.Sorted.{IsPermutation}
use Rattle.tickets.specs.declared.ticket.Ticket.{Ticket}
use Rattle.spreads.specs.Builder.{Builds, lengths, halves}
use Rattle.pricing.specs.declared.work.Work.{Work}
use Rattle.pricing.specs.declared.keys.Release.{Release}
use Rattle.pricing.specs.declared.step.Playing.{Playing}
use Rattle.pricing.specs.declared.step.Event.{Event}
use Rattle.pricing.specs.declared.step.Event.TheVariants.{Release as Released, Completion}
use Rattle.pricing.specs.Works.{entry, Stands}

-- one of xs has the number i
abbrev pub In : {X : Type 0} → (X → ℕ) → List X → ℕ → Type 0
In {X} number xs i = (x : X) × ContainsAt xs x × (number x ≡ i)

-- the release of a ticket that is still to come
abbrev pub Coming : List Release → ℕ → Type 0
Coming C i = In (λ (x : Release). x.number) C i

-- x is the release of one of the first n entries
abbrev pub Ours : List Work → ℕ → Release → Type 0
Ours xs n x = (x.number < n) × (x.slot ≡ (entry xs x.number).release)

-- the first n entries are entered: each has its release in C, and its length in `left`
pub record Entered (xs : List Work) (n : ℕ) (C : List Release) (left : List ℕ) : Type 0 where
  pub many : length C ≡ n
  pub ours : AllByRecursion (Ours xs n) C
  pub all : (i : ℕ) → i < n → Coming C i
  pub places : length left ≡ 24
  pub here : (i : ℕ) → i < n → slice_index left i ≡ (entry xs i).length
  pub past : (i : ℕ) → n ≤ i → slice_index left i ≡ 0

-- how many tickets play
abbrev pub busy : Option Playing → ℕ
busy None = 0
busy (Some p) = 1

-- the completion of what plays and its moment, if nothing comes between
abbrev pub completion_of : Option Playing → List ℕ → Option (Event × ℕ)
completion_of None left = None
completion_of (Some p) left = Some (Completion p, p.since + slice_index left p.ticket)

-- what plays has a place in the list, and is done soon enough
abbrev pub Fine : List ℕ → Option Playing → Type 0
Fine left None = Unit {0}
Fine left (Some p) = (p.ticket < length left) × (p.since + slice_index left p.ticket < 65536)

-- the moment t comes before what plays is done, if something plays
abbrev pub Before : Option Playing → List ℕ → ℕ → Type 0
Before None left t = Unit {0}
Before (Some p) left t = t < p.since + slice_index left p.ticket

-- the next event and its moment: C was to come, and C' is to come after it. A release comes only before what plays is done.
abbrev pub Next : Option Playing → List ℕ → List Release → List Release → Option (Event × ℕ) → Type 0
Next playing left C C' None = (busy playing ≡ 0) × (length C ≡ 0)
Next playing left C C' (Some (Released j, at)) =
    (x : Release) × (x.number ≡ j) × (x.slot ≡ at) × Before playing left at × AllByRecursion (λ y. at ≤ y.slot) C × IsPermutation C (x ∷ C') × (at ≤ 255)
Next playing left C C' (Some (Completion p, at)) = (playing ≡ Some p) × (at ≡ p.since + slice_index left p.ticket) × AllByRecursion (λ y. at ≤ y.slot) C × (C' ≡ C)

-- c has the busy terms of what is built of the entries, whatever tickets they stand for
abbrev pub Busy : List Work → ℕ → Type 0
Busy xs c = (ts : List Ticket) (r v : ℕ → ℕ) → Stands ts r v xs → Builds ts r v 0 (lengths ts) c

-- p is the price of what is built of the entries
abbrev pub Priced : List Work → ℕ → Type 0
Priced xs p = (ts : List Ticket) (r v : ℕ → ℕ) → Stands ts r v xs → (c : ℕ) × Builds ts r v 0 (lengths ts) c × (p ≡ halves ts + c)
