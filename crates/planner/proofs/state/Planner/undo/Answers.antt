use Rattle.std.proofs.Common.{◌≡◌, ◌∷◌, [], ◌++◌, Some, Err, refl, ap, ◌∙◌, rules}
use Rattle.std.specs.Option.{option_to_list}
use Rattle.planner.proofs.Closing.{undo_refused, undone}
use Rattle.planner.proofs.state.Planner.undo.Goals as goal

pub returns-in_err-spend-clause-moved : goal.returns-in_err-spend-clause-moved
returns-in_err-spend-clause-moved g c =
    let is : c.from_residual.result ≡ Err c.in_err-spend.field-0.0 = search rules in
    rw is (undo_refused g.S.Store.rows c.args.self.now c.args.token _ c.in_err-spend.ensures)

pub returns-in-Some-clause-moved : goal.returns-in-Some-clause-moved
returns-in-Some-clause-moved g c =
    let R = g.S.Store.rows in
    let p = c.args.self.now in
    let set = c.in-Some.newest.now in
    let below = c.pop.new.self.items in
    let popped : c.pop.result ≡ Some set = search rules in
    let levels : p.levels.items ≡ below ++ set ∷ [] = c.pop.ensures.items ∙ ap (λ r. below ++ option_to_list r) popped in
    undone R p c.args.token c.in_ok-spend.ensures set below levels _ refl c.pour.ensures refl refl refl
