use Rattle.spreads.proofs.Ahead.{serving_is_least}
use Rattle.spreads.proofs.laws.serving_is_least.Goals as goal

pub returns : goal.returns
returns c = serving_is_least
