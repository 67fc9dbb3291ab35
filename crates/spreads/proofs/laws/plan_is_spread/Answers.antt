use Rattle.spreads.proofs.Plans.{plan_is_spread}
use Rattle.spreads.proofs.laws.plan_is_spread.Goals as goal

pub returns : goal.returns
returns c = plan_is_spread
