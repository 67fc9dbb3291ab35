use Rattle.pricing.proofs.Standing.{priced}
use Rattle.pricing.proofs.work.Works.build.Goals as goal

pub returns : goal.returns
returns c = priced c.args.self.now.entries.items c.halves.result c.play.result c.halves.ensures.value c.play.ensures.busy
