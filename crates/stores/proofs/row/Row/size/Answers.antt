use Rattle.std.proofs.Common.{◌≡◌, ◌∙◌, refl, rules, tests, arith}
use Rattle.std.proofs.lemmas.Iterator.{YieldsList-from_slice}
use Rattle.std.proofs.lemmas.Iterator.Adapters.{fits_from_length, at_most_from_yields_List}
use Rattle.std.specs.List.{sum_by}
use Rattle.stores.specs.Sets.{count}
use Rattle.stores.specs.Words.{bit}
use Rattle.stores.proofs.Held.{size_words}
use Rattle.stores.proofs.row.Row.size.Goals as goal

pub sum-requires-clause-fits : goal.sum-requires-clause-fits
sum-requires-clause-fits c =
    fits_from_length _ _ 4 _ (at_most_from_yields_List (YieldsList-from_slice c.map.result.iter.rest.now refl) (grind arith)) c.map.ensures.closure (omega arith)
    (λ x r q k. search (rules, tests))

pub returns : goal.returns
returns c =
    let all : c.sum.result ≡ sum_by (λ w. count (bit w) 64) c.args.self.now.words = search rules in
    all ∙ size_words c.args.self.now (omega arith)
