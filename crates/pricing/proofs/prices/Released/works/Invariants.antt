use Rattle.std.proofs.Common.{length}
use Rattle.tickets.specs.Collections.{posted}
use Rattle.pricing.specs.Works.{Made}
use Rattle.pricing.proofs.prices.Released.works.Given as goal

abbrev pub invariant-loop-ticket : goal.invariant-loop-ticket
invariant-loop-ticket l = Made (posted l.self.collection.now) l.self.releases (length l.yielded) l.works.entries.items
