use Rattle.runs.proofs.Supports.{support_laws}
use Rattle.runs.proofs.laws.support_laws.Goals as goal

pub returns : goal.returns
returns c = support_laws
