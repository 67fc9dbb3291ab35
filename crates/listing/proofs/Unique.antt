-- A row has one list of longest unbroken ranges. Assumes nothing.
use Rattle.std.proofs.Common.{◌≡◌, ℕ, ◌+◌, ◌<◌, ◌≤◌, Bool, List, [], ◌∷◌, get_or, Some, None, sym, refl, ◌∙◌, subst, arith}
use Rattle.std.proofs.lemmas.Bool.{both_ways, cases_lt}
use Rattle.std.proofs.lemmas.List.{ext_get_or}
use Rattle.stores.specs.Sets.{Rows, Earliest, First}
use Rattle.stores.proofs.Firsts.{first_same}
use Rattle.listing.specs.declared.range.Range.{Range}
use Rattle.listing.specs.Ranges.{Leads, Ranges, TableRanges}

pub earliest_same : (f : ℕ → Bool) (from v w : ℕ) → Earliest f from v → Earliest f from w → v ≡ w
earliest_same f from v w p q = let e = first_same f from (Some v) (Some w) p q in cc

-- a range that begins at the same start ends no later than another
leads_last : (f : ℕ → Bool) (from : ℕ) (r s : Range) → Leads f from r → Leads f from s → r.first ≡ s.first → r.last ≤ s.last
leads_last f from r s p q e = grind (arith, cases_lt s.last r.last, p.unbroken (s.last + 1), q.ends, q.rises)

-- there is one first range
pub leads_same : (f : ℕ → Bool) (from : ℕ) (r s : Range) → Leads f from r → Leads f from s → r ≡ s
leads_same f from r s p q =
    let a = earliest_same f from r.first s.first p.begins q.begins in
    let b : r.last ≡ s.last = omega (arith, leads_last f from r s p q a, leads_last f from s r q p (sym a)) in
    λ i. record { first = a i; last = b i }

-- where no start is left there is no first range
pub leads_none : (f : ℕ → Bool) (from : ℕ) (r : Range) → First f from None → Leads f from r → ⊥
leads_none f from r none p = both_ways (f r.first) (none r.first p.begins.reached) p.begins.held

pub ranges_same : (f : ℕ → Bool) (from : ℕ) (rs ss : List Range) → Ranges f from rs → Ranges f from ss → rs ≡ ss
ranges_same f from [] [] p q = refl
ranges_same f from [] (s ∷ ss) p q = absurd (leads_none f from s p q.0)
ranges_same f from (r ∷ rs) [] p q = absurd (leads_none f from r q p.0)
ranges_same f from (r ∷ rs) (s ∷ ss) p q =
    let e = leads_same f from r s p.0 q.0 in
    let t = ranges_same f (r.last + 2) rs ss p.1 (subst (λ x. Ranges f (x.last + 2) ss) (sym e) q.1) in
    cc

-- a table has one list of ranges for each row
pub table_ranges_same : (R : Rows) (n : ℕ) (a b : List (List Range)) → TableRanges R n a → TableRanges R n b → a ≡ b
table_ranges_same R n a b p q =
    ext_get_or [] a b (p.places ∙ sym q.places) (λ i h. let l : i < n = omega (arith, p.places) in ranges_same (R i) 0 (get_or a i []) (get_or b i []) (p.here i l) (q.here i l))
