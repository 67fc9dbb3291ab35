use Rattle.std.proofs.Common.{◌-◌, length, vec_items}
use Rattle.ticket_file.proofs.Whole.{Handed}
use Rattle.ticket_file.proofs.reading.read.Given as goal

abbrev pub invariant-loop-placed : goal.invariant-loop-placed
invariant-loop-placed l = Handed l.file l.cursor (vec_items l.records)

abbrev pub decreases-loop-placed : goal.decreases-loop-placed
decreases-loop-placed l = length l.file - l.cursor.place
