use Rattle.std.proofs.Common.{◌≡◌, ℕ, zero, suc, ◌+◌, map, refl, ap, ◌∙◌, add-one, arith, rules}
use Rattle.std.proofs.lemmas.Iterator.{YieldsList-from_range, YieldsList-from_map}
use Rattle.std.proofs.lemmas.Iterator.Adapters.{fits_from_length, at_most_from_yields_List}
use Rattle.std.proofs.lemmas.Iterator.Consumers.{sum_from_yields_List}
use Rattle.std.proofs.lemmas.List.FromFn.{length-range_with_len, sum_by-map-range_with_len_more}
use Rattle.std.specs.List.{sum, range_with_len}
use Rattle.spreads.specs.Lines.{sum_to}
use Rattle.stores.specs.Sets.{size_of}
use Rattle.stores.proofs.Counts.{count_most}
use Rattle.planner.proofs.cuts.count_starts.Goals as goal

-- a sum over the rows from 0 on
sum_rows : (f : ℕ → ℕ) (n : ℕ) → sum (map f (range_with_len 0 n)) ≡ sum_to n f
sum_rows f zero = refl
sum_rows f (suc n) = rw add-one at (sum_by-map-range_with_len_more (λ x. x) f 0 n n (omega arith)) ∙ ap (λ s. s + f n) (sum_rows f n)

pub sum-requires-clause-fits : goal.sum-requires-clause-fits
sum-requires-clause-fits g c =
    let R = g.S.Store.rows c.args.store.now in
    fits_from_length _ _ 24 _ (at_most_from_yields_List (YieldsList-from_range 0 c.args.tickets c.args.tickets c.map.ensures.source (omega arith)) (omega (arith, length-range_with_len 0 c.args.tickets))) c.map.ensures.closure (omega arith)
    (λ x r q k. let e : r ≡ size_of (R x) = search rules in (search rules, omega (arith, e, count_most (R x) 256)))

pub returns : goal.returns
returns g c =
    let R = g.S.Store.rows c.args.store.now in
    sum_from_yields_List c.map.result c.sum.result c.sum.ensures.ran
    (YieldsList-from_map _ (λ i. size_of (R i)) (YieldsList-from_range 0 c.args.tickets c.args.tickets c.map.ensures.source (omega arith)) c.map.ensures.closure (λ x r q k. search rules))
    ∙ sum_rows (λ i. size_of (R i)) c.args.tickets
