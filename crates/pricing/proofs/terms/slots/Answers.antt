use Rattle.pricing.proofs.Amounts.{slots_is}
use Rattle.pricing.proofs.terms.slots.Goals as goal

pub returns-clause-sum : goal.returns-clause-sum
returns-clause-sum c = rw (c.from.ensures, c.from-first.ensures) (slots_is c.args.since c.args.until)
