use Rattle.pricing.proofs.Amounts.{quotient_value}
use Rattle.pricing.proofs.terms.stretch.Goals as goal

pub returns-clause-value : goal.returns-clause-value
returns-clause-value c =
    let q = quotient_value c.args.entry c.quotient.result c.quotient.ensures in
    let s = c.slots.ensures.sum in
    cc
