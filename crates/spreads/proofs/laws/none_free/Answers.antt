use Rattle.spreads.proofs.Exists.{none_free}
use Rattle.spreads.proofs.laws.none_free.Goals as goal

pub returns : goal.returns
returns c = none_free
