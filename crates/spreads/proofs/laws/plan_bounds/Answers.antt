use Rattle.spreads.proofs.Plans.{plan_bounds}
use Rattle.spreads.proofs.laws.plan_bounds.Goals as goal

pub returns : goal.returns
returns c = plan_bounds
