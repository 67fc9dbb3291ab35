-- The first start at or after a given one, and what is answered out of range. Assumes nothing.
use Rattle.std.proofs.Common.{◌≡◌, ℕ, zero, suc, ◌+◌, ◌-◌, ◌≤◌, Bool, true, false, Some, None, Option, refl, ap, ◌∙◌, ⊎_elim, arith}
use Rattle.std.proofs.lemmas.Bool.{cases_Bool, cases_eq, cases_lt, both_ways}
use Rattle.std.proofs.lemmas.Bool.Decides.{nat_tests}
use Rattle.stores.specs.Sets.{Rows, inside, Bounded, Earliest, First}
use Rattle.stores.specs.SetLaws.{AfterLaws, RangeLaws, SetLaws}
use Rattle.stores.proofs.Moves.{held_inside, without_absent, with_present, moves}
use Rattle.stores.proofs.Counts.{count_none, sizes}

-- the earliest start is not after any other at or after `from`
pub earliest_least : (f : ℕ → Bool) (from v t : ℕ) → Earliest f from v → from ≤ t → f t ≡ true → v ≤ t
earliest_least f from v t h l on = grind (arith, cases_lt t v, h.gap t)

-- the others come after it
pub earliest_next : (f : ℕ → Bool) (from v t : ℕ) → Earliest f from v → from ≤ t → f t ≡ true → (t ≡ v → ⊥) → v + 1 ≤ t
earliest_next f from v t h l on ne = let le = earliest_least f from v t h l on in omega arith

earliest_same : (f : ℕ → Bool) (from v w : ℕ) → Earliest f from v → Earliest f from w → v ≡ w
earliest_same f from v w p q =
    omega (arith, earliest_least f from v w p q.reached q.held, earliest_least f from w v q p.reached p.held)

pub first_same : (f : ℕ → Bool) (from : ℕ) (a b : Option ℕ) → First f from a → First f from b → a ≡ b
first_same f from None None p q = refl
first_same f from None (Some w) p q = absurd (both_ways (f w) (p w q.reached) q.held)
first_same f from (Some v) None p q = absurd (both_ways (f v) (q v p.reached) p.held)
first_same f from (Some v) (Some w) p q = ap Some (earliest_same f from v w p q)

-- the first start among the n from `from` on, if the n-th is in
search_up : (f : ℕ → Bool) (from n : ℕ) → f (from + n) ≡ true → (v : ℕ) × Earliest f from v × (v ≤ from + n)
search_up f from zero on = (from + zero, record { reached = omega arith; held = on; gap = λ t l m. absurd (omega arith) }, omega arith)
search_up f from (suc n) on =
    ⊎_elim
    (λ (e : f from ≡ true). (from, record { reached = omega arith; held = e; gap = λ t l m. absurd (omega arith) }, omega arith))
    (λ (e : f from ≡ false).
    let (v, h, l) = search_up f (suc from) n (ap f (omega arith) ∙ on) in (
      v,
      record {
        reached = let r = h.reached in omega arith;
        held = h.held;
        gap = λ t p q. grind (arith, cases_eq t from, h.gap t);
      },
      omega arith,
    ))
    (cases_Bool (f from))

pub earliest_found : (f : ℕ → Bool) (from t : ℕ) → from ≤ t → f t ≡ true → (v : ℕ) × Earliest f from v × (v ≤ t)
earliest_found f from t l on =
    let e : from + (t - from) ≡ t = omega arith in
    let (v, h, m) = search_up f from (t - from) (ap f e ∙ on) in
    (v, h, omega arith)

pub afters : AfterLaws
afters =
    record {
      one = first_same;
      held = λ R row from v b h. let (p, q) = b row v h.held in (h.held, p, q);
      later = earliest_next;
      found = earliest_found;
      none = λ f h. count_none f 256 (λ t _. h t (omega arith));
    }

after_outside : (R : Rows) (row start : ℕ) (a : Option ℕ) → Bounded R → inside row start ≡ false → First (R row) start a → a ≡ None
after_outside R row start None b h p = refl
after_outside R row start (Some v) b h p =
    let (l, m) = b row v p.held in
    let r = p.reached in
    absurd (grind (arith, nat_tests))

pub range : RangeLaws
range =
    record {
      holds = held_inside;
      size = λ R row b l. count_none (R row) 256 (λ t _. held_inside R row t b (grind (arith, nat_tests)));
      after = after_outside;
      take_out = λ R row start b h. without_absent R row start (held_inside R row start b h);
      put_back = λ R row start h. (rw h, with_present R row start (rw h));
    }

pub set_laws : SetLaws
set_laws = record { moves = moves; sizes = sizes; afters = afters; range = range }
