-- Two ways to play tickets, slot by slot: when one is never behind the other. Assumes nothing.
-- Amounts may be anything, so that slots in which nothing plays and slots in which several tickets play are covered.
use Rattle.std.specs.Prelude.{◌≡◌, ℕ, suc, ◌*◌, ◌<◌, ◌≤◌, Bool, true, cond, ◌⊎◌, nat_lt}
use Rattle.spreads.specs.Lines.{sum_to}

-- how much of a ticket (the first number) is played in a slot (the second)
abbrev pub Amounts : Type 0
Amounts = ℕ → ℕ → ℕ

-- what the tickets 0 to n - 1 get in slot k, each amount times the ticket's value
abbrev pub given : ℕ → (ℕ → ℕ) → Amounts → ℕ → ℕ
given n v a k = sum_to n (λ i. v i * a i k)

-- the value 1 for the tickets of a set, 0 for the others
abbrev pub members : (ℕ → Bool) → ℕ → ℕ
members H i = cond (H i) 1 0

-- In slot k the way g serves the set H first, compared with the way a: the set gets no less there than by a, or each ticket
-- of the set has had, up to and with that slot, no less than by a.
abbrev pub Serves : ℕ → (ℕ → Bool) → Amounts → Amounts → ℕ → Type 0
Serves n H g a k =
    (given n (members H) a k ≤ given n (members H) g k) ⊎ ((i : ℕ) → i < n → H i ≡ true → sum_to (suc k) (a i) ≤ sum_to (suc k) (g i))

-- who serves a set first in every slot has given it, at any time, no less
abbrev pub Domination : Type 0
Domination =
    (n : ℕ) (H : ℕ → Bool) (g a : Amounts) (t : ℕ) → ((k : ℕ) → k < t → Serves n H g a k) →
    sum_to t (given n (members H) a) ≤ sum_to t (given n (members H) g)

-- value * amount * slot, summed over the tickets 0 to n - 1 and the first t slots
abbrev pub weighted : ℕ → (ℕ → ℕ) → Amounts → ℕ → ℕ
weighted n v a t = sum_to n (λ i. v i * sum_to t (λ k. a i k * k))

-- who serves first, for every number m, the tickets of value above m, and plays in all as much of each ticket as the other,
-- has the smaller weighted sum
abbrev pub ServingIsLeast : Type 0
ServingIsLeast =
    (n : ℕ) (v : ℕ → ℕ) (g a : Amounts) (t : ℕ) → ((m k : ℕ) → k < t → Serves n (λ i. nat_lt m (v i)) g a k) →
    ((i : ℕ) → i < n → sum_to t (g i) ≡ sum_to t (a i)) → weighted n v g t ≤ weighted n v a t
