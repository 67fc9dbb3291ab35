use Rattle.std.proofs.Common.{◌≡◌, Err, refl, arith, rules}
use Rattle.planner.proofs.Marks.{levels_many, newest_of}
use Rattle.planner.proofs.Closing.{keep_refused, kept}
use Rattle.planner.proofs.state.Planner.keep.Goals as goal

pub returns-in_err-spend-clause-moved : goal.returns-in_err-spend-clause-moved
returns-in_err-spend-clause-moved g c =
    let is : c.from_residual.result ≡ Err c.in_err-spend.field-0.0 = search rules in
    rw is (keep_refused g.S.Store.rows c.args.self.now c.args.token _ c.in_err-spend.ensures)

pub returns-clause-moved : goal.returns-clause-moved
returns-clause-moved g c =
    let R = g.S.Store.rows in
    let p = c.args.self.now in
    let top = c.in_ok-spend.ensures.top in
    let some = c.in_ok-spend.ensures.some in
    let (below, newest, levels) = newest_of p.levels.items (omega (arith, top, some, levels_many (R p.store) p.levels.items)) in
    kept R p c.args.token c.in_ok-spend.ensures newest below levels _ refl refl refl refl (c.join.ensures.tables (R p.store) below newest levels)
