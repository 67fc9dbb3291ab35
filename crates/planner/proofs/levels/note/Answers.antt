use Rattle.std.proofs.Common.{rules}
use Rattle.stores.specs.BitRows.{bit_rows}
use Rattle.planner.proofs.Marks.{marks_noted}
use Rattle.planner.proofs.levels.note.Goals as goal

pub returns-in-Some-clause-tables : goal.returns-in-Some-clause-tables
returns-in-Some-clause-tables c = λ R. marks_noted R (bit_rows c.args.gone.now) c.args.levels.now c.in-Some.newest.now c.pour.new.into (search rules) (search rules) c.pour.ensures
