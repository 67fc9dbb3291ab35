use Rattle.planner_tests.proofs.Verdicts.{judged_after}
use Rattle.planner_tests.proofs.judging.prune_and_judge.Goals as goal

pub returns-clause-by_orders : goal.returns-clause-by_orders
returns-clause-by_orders g c = judged_after g.S.Store.rows c.args.planner.now c.args.plan.now _ _ _ _ _ c.in_ok-prune.ensures c.judge.ensures.by_orders
