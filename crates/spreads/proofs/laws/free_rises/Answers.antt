use Rattle.spreads.proofs.Rises.{free_rises}
use Rattle.spreads.proofs.laws.free_rises.Goals as goal

pub returns : goal.returns
returns c = free_rises
