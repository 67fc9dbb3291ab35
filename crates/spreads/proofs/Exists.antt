-- Prices computed by the builder's rule, and that there is one of each. Assumes nothing.
use Rattle.std.proofs.Common.{ℕ, ◌+◌, ◌<◌, List, [], length, arith}
use Rattle.tickets.specs.declared.ticket.Ticket.{Ticket}
use Rattle.spreads.specs.Lines.{sum_to}
use Rattle.spreads.specs.Spreads.{value, release, LeastPrice}
use Rattle.spreads.specs.Pinned.{put, LeastPinned}
use Rattle.spreads.specs.Builder.{halves}
use Rattle.spreads.specs.Exists.{FreeExists, PinnedExists, NoneFree}
use Rattle.spreads.proofs.Sums.{term_le}
use Rattle.spreads.proofs.Building.{built_free, built_pinned}
use Rattle.spreads.proofs.Computed.{busy_terms, runs}
use Rattle.spreads.proofs.Rises.{one_least}

-- the free price
abbrev pub free_price : List Ticket → List ℕ → ℕ
free_price ts rs = halves ts + busy_terms ts (release rs) (value ts)

pub free_price_is : (ts : List Ticket) (rs : List ℕ) → LeastPrice ts rs (free_price ts rs)
free_price_is ts rs = built_free ts rs (busy_terms ts (release rs) (value ts)) (runs ts (release rs) (value ts))

-- the pinned price of ticket i at t
abbrev pub pinned_price : List Ticket → List ℕ → ℕ → ℕ → ℕ
pinned_price ts rs i t = halves ts + busy_terms ts (put (release rs) i t) (put (value ts) i (sum_to (length ts) (value ts) + 1))

pub pinned_price_is : (ts : List Ticket) (rs : List ℕ) (i t : ℕ) → i < length ts → LeastPinned ts rs i t (pinned_price ts rs i t)
pinned_price_is ts rs i t known =
    let r = put (release rs) i t in
    let top = sum_to (length ts) (value ts) + 1 in
    let v = put (value ts) i top in
    built_pinned ts rs i t top (busy_terms ts r v) known (λ j l o. omega (arith, term_le (length ts) (value ts) j l)) (runs ts r v)

pub free_exists : FreeExists
free_exists ts rs = (free_price ts rs, free_price_is ts rs, λ d h. one_least ts _ (free_price ts rs) d (free_price_is ts rs) h)

pub pinned_exists : PinnedExists
pinned_exists ts rs i t known = (pinned_price ts rs i t, pinned_price_is ts rs i t known, λ d h. one_least ts _ (pinned_price ts rs i t) d (pinned_price_is ts rs i t known) h)

pub none_free : NoneFree
none_free rs = free_price_is [] rs
