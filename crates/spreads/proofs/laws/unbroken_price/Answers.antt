use Rattle.spreads.proofs.Unbroken.{unbroken_price}
use Rattle.spreads.proofs.laws.unbroken_price.Goals as goal

pub returns : goal.returns
returns c = unbroken_price
