use Rattle.planner_tests.proofs.Verdicts.{judged}
use Rattle.planner_tests.proofs.judging.judge.Goals as goal

pub returns-clause-judged : goal.returns-clause-judged
returns-clause-judged g c = rw (c.collection.ensures, c.store.ensures, c.ceiling.ensures) at c.judge.ensures

pub returns-clause-by_orders : goal.returns-clause-by_orders
returns-clause-by_orders g c = judged g.S.Store.rows c.args.planner.now c.args.plan.now _ (rw (c.collection.ensures, c.store.ensures, c.ceiling.ensures) at c.judge.ensures)
