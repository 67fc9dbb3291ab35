use Rattle.std.proofs.Common.{rules, ◌≡◌, arith}
use Rattle.pricing.specs.Terms.{halves_of}
use Rattle.pricing.proofs.Amounts.{halves_le}
use Rattle.pricing.proofs.work.Works.halves.Goals as goal

pub returns-clause-most : goal.returns-clause-most
returns-clause-most c =
    let xs = c.args.self.now.entries.items in
    let e : c.sum.result ≡ halves_of xs = search rules in
    omega (arith, e, halves_le xs c.args.self.now.few)
