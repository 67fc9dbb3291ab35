use Rattle.std.proofs.Common.{refl, arith}
use Rattle.runs.specs.Planner.{lowers, takes}
use Rattle.runs.proofs.Refusals.{lower_14, lower_free}
use Rattle.planner.specs.States.{setting_of, state_of}
use Rattle.planner.proofs.Going.{goes_on, refused}
use Rattle.planner.proofs.state.Planner.lower.Goals as goal

pub returns-then-ceiling-self : goal.returns-then-ceiling-self
returns-then-ceiling-self g c = refused g.S.Store.rows c.args.self.now _ _ (lower_14 _ _ c.args.ceiling (omega arith))

pub returns : goal.returns
returns g c =
    let R = g.S.Store.rows in
    let p = c.args.self.now in
    goes_on R p _ _ _ refl (takes (lower_free (setting_of p) (state_of R p) c.args.ceiling (omega arith)) (lowers refl))
