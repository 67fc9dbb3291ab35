use Rattle.spreads.proofs.Building.{built_free}
use Rattle.spreads.proofs.laws.built_free.Goals as goal

pub returns : goal.returns
returns c = built_free
