use Rattle.spreads.proofs.Pinned.{pinned_price}
use Rattle.spreads.proofs.laws.pinned_price.Goals as goal

pub returns : goal.returns
returns c = pinned_price
