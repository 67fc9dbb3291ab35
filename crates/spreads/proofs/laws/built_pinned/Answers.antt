use Rattle.spreads.proofs.Building.{built_pinned}
use Rattle.spreads.proofs.laws.built_pinned.Goals as goal

pub returns : goal.returns
returns c = built_pinned
