use Rattle.spreads.proofs.Greedy.{greedy_is_least}
use Rattle.spreads.proofs.laws.greedy_is_least.Goals as goal

pub returns : goal.returns
returns c = greedy_is_least
