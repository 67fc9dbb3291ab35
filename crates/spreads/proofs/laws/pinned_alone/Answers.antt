use Rattle.spreads.proofs.Pinned.{pinned_alone}
use Rattle.spreads.proofs.laws.pinned_alone.Goals as goal

pub returns : goal.returns
returns c = pinned_alone
