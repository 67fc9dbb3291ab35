use Rattle.spreads.proofs.Ranks.{rank_by_products}
use Rattle.spreads.proofs.laws.rank_by_products.Goals as goal

pub returns : goal.returns
returns c = rank_by_products
