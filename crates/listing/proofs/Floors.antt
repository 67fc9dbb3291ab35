-- A table has one floor. Assumes nothing.
use Rattle.std.proofs.Common.{◌≡◌, ℕ, List, length, sym, ◌∙◌, subst, inl, inr, arith}
use Rattle.std.proofs.lemmas.Bool.{both_ways, cases_lt}
use Rattle.std.proofs.lemmas.List.{ext_get_or}
use Rattle.tickets.specs.declared.ticket.Ticket.{Ticket}
use Rattle.spreads.specs.Spreads.{release, Spread}
use Rattle.spreads.proofs.Rises.{one_least}
use Rattle.pricing.specs.Prices.{Floor}
use Rattle.stores.specs.Sets.{Rows}
use Rattle.queries.specs.TablePrices.{FirstStarts, ReleasesOf, SomeEmpty, FloorAnswer}
use Rattle.listing.proofs.Unique.{earliest_same}

-- the first starts of the rows are these
pub first_starts_same : (R : Rows) (n : ℕ) (rs ss : List ℕ) → FirstStarts R n rs → FirstStarts R n ss → rs ≡ ss
first_starts_same R n rs ss p q =
    ext_get_or 0 rs ss (p.places ∙ sym q.places) (λ i _. grind (arith, cases_lt i n, p.past i, q.past i, p.here i, q.here i, earliest_same (R i) 0 (release rs i) (release ss i)))

-- with the same releases the floor is the same
pub floor_same : (ts : List Ticket) (rs : List ℕ) (f g : ℕ) → Floor ts rs f → Floor ts rs g → f ≡ g
floor_same ts rs f g (c, l, a, b) (d, m, x, y) = omega (arith, one_least ts (Spread ts (release rs)) c d l m)

-- a table with an empty row has no releases
pub empty_none : (ts : List Ticket) (R : Rows) (rs : List ℕ) → SomeEmpty ts R → ReleasesOf ts R rs → ⊥
empty_none ts R rs (i, l, none) h = let e = h.here i l in both_ways (R i (release rs i)) (none (release rs i) e.reached) e.held

pub floor_answer_same : (ts : List Ticket) (R : Rows) (f g : ℕ) → FloorAnswer ts R f → FloorAnswer ts R g → f ≡ g
floor_answer_same ts R f g (inl (a, e)) (inl (b, d)) = e ∙ sym d
floor_answer_same ts R f g (inl (a, e)) (inr (rs, h, l)) = absurd (empty_none ts R rs a h)
floor_answer_same ts R f g (inr (rs, h, l)) (inl (b, d)) = absurd (empty_none ts R rs b h)
floor_answer_same ts R f g (inr (rs, h, l)) (inr (ss, k, m)) =
    floor_same ts rs f g l (subst (λ x. Floor ts x g) (sym (first_starts_same R (length ts) rs ss h k)) m)
