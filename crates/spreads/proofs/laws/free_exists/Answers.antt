use Rattle.spreads.proofs.Exists.{free_exists}
use Rattle.spreads.proofs.laws.free_exists.Goals as goal

pub returns : goal.returns
returns c = free_exists
