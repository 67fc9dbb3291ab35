use Rattle.spreads.proofs.Figures.{figures_hold}
use Rattle.spreads.proofs.laws.figures_hold.Goals as goal

pub returns : goal.returns
returns c = figures_hold
