use Rattle.planner_tests.proofs.Standing.{first_keeps, first_answer}
use Rattle.planner_tests.proofs.plans.seal_and_prune.Goals as goal

pub returns-clause-plans : goal.returns-clause-plans
returns-clause-plans g c = first_keeps g.S.Store.rows c.args.collection c.args.stamp _ _ _ _ c.seal-planner.ensures _ c.prune-answer.ensures

pub returns-clause-answer : goal.returns-clause-answer
returns-clause-answer g c = first_answer g.S.Store.rows c.args.collection c.args.stamp _ _ _ _ c.seal-planner.ensures _ c.prune-answer.ensures
