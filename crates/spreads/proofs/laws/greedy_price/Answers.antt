use Rattle.spreads.proofs.Greedy.{greedy_price}
use Rattle.spreads.proofs.laws.greedy_price.Goals as goal

pub returns : goal.returns
returns c = greedy_price
