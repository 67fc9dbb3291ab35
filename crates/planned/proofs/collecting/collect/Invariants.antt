use Rattle.planned.proofs.Records.{Sofar}
use Rattle.planned.proofs.collecting.collect.Given as goal

abbrev pub invariant-loop-placed : goal.invariant-loop-placed
invariant-loop-placed l = Sofar l.records l.placed-index l.collection
