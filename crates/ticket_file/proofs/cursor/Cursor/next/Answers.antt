use Rattle.std.proofs.Common.{refl}
use Rattle.ticket_file.proofs.Steps.{unfinished}
use Rattle.ticket_file.proofs.cursor.Cursor.next.Goals as goal

pub returns-in-Tickets : goal.returns-in-Tickets
returns-in-Tickets c = λ rs r. rw c.at.ensures (unfinished _ _ _ _ r c.if-place-self.false c.in-Tickets.is, refl)
