use Rattle.tickets.specs.Collections.{posted}
use Rattle.pricing.proofs.Making.{free_made}
use Rattle.pricing.proofs.prices.Released.free_price.Goals as goal

pub returns : goal.returns
returns c = free_made (posted c.args.self.now.collection.now) c.args.self.now.releases _ c.works.ensures c.build.result c.build.ensures
