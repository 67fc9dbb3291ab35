use Rattle.figures.proofs.Worked.{worked_days}
use Rattle.figures.proofs.worked_days.Goals as goal

pub returns : goal.returns
returns c = worked_days
