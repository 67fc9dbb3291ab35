use Rattle.std.proofs.Common.{refl}
use Rattle.ticket_file.proofs.Steps.{opened}
use Rattle.ticket_file.proofs.cursor.Cursor.open.Goals as goal

pub returns : goal.returns
returns c = (refl, opened _ _ c.in_ok-rest.ensures.0 c.in_ok-rest.ensures.1 _ refl)
