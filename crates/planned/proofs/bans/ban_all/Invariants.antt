use Rattle.planned.proofs.Plans.{Sofar}
use Rattle.planned.proofs.bans.ban_all.Given as goal

abbrev pub invariant-loop-placed : goal.invariant-loop-placed
invariant-loop-placed l = Sofar l.records l.placed-index l.planner
