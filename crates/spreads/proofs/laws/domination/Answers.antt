use Rattle.spreads.proofs.Ahead.{domination}
use Rattle.spreads.proofs.laws.domination.Goals as goal

pub returns : goal.returns
returns c = domination
