use Rattle.spreads.proofs.Exists.{pinned_exists}
use Rattle.spreads.proofs.laws.pinned_exists.Goals as goal

pub returns : goal.returns
returns c = pinned_exists
