use Rattle.day.specs.Contents.{gathered}
use Rattle.day.proofs.Outcomes.{Sofar}
use Rattle.day.proofs.contents.gather.Given as goal

abbrev pub invariant-loop-placed : goal.invariant-loop-placed
invariant-loop-placed l = Sofar l.placed-items l.placed-index (gathered l.contents)
