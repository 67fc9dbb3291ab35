use Rattle.runs.proofs.Runs.{every_run}
use Rattle.runs.proofs.laws.whole_runs.Goals as goal

pub returns : goal.returns
returns c = every_run
