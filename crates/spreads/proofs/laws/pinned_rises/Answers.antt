use Rattle.spreads.proofs.Rises.{pinned_rises}
use Rattle.spreads.proofs.laws.pinned_rises.Goals as goal

pub returns : goal.returns
returns c = pinned_rises
