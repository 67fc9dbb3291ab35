use Rattle.std.proofs.Common.{◌∙◌}
use Rattle.planner.proofs.Walking.{poured_more}
use Rattle.planner.proofs.sets.pour.Goals as goal

pub loop-row-preserved : goal.loop-row-preserved
loop-row-preserved g c =
    let (_, same, poured) = c.loop-row.invariant in
    let f = c.in-Some.ensures.steps in (
      c.in-Some.ensures.goes.keeps,
      f.store ∙ same,
      poured_more _ (g.F.Store.rows c.args.from.now) _ _ _ _ c.in-Some.row c.in-Some.start (g.met.F.Store.bounded c.args.from.now) (rw same at f.next) poured c.put_back.ensures.left,
    )
