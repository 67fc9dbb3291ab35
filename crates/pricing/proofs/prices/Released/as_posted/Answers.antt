use Rattle.std.proofs.Common.{rules, length, ap, ◌∙◌, arith}
use Rattle.pricing.specs.Prices.{first_starts}
use Rattle.pricing.proofs.Posting.{few_posted, starts_made}
use Rattle.pricing.proofs.prices.Released.as_posted.Goals as goal

pub returns-clause-releases : goal.returns-clause-releases
returns-clause-releases c =
    let e = c.tickets-tickets.ensures in
    starts_made _ _ c.tickets-tickets.result.now (omega (arith, few_posted c.args.collection.now, ap length e)) (λ i y q k. (search rules, search rules)) c.from_fn.result c.from_fn.ensures.items ∙ ap first_starts e
