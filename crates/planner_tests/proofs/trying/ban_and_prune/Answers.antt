use Rattle.std.proofs.Common.{◌≡◌, Err, rules}
use Rattle.planner_tests.proofs.Tries.{tried_refused, tried_pruned}
use Rattle.planner_tests.proofs.trying.ban_and_prune.Goals as goal

pub returns-in_err-ban : goal.returns-in_err-ban
returns-in_err-ban g c =
    let is : c.from_residual.result ≡ Err c.in_err-ban.field-0.0 = search rules in
    rw is (tried_refused g.S.Store.rows c.args.planner.now c.args.ticket c.args.start c.args.cuts.now _ _ c.in_err-ban.ensures)

pub returns : goal.returns
returns g c = tried_pruned g.S.Store.rows c.args.planner.now c.args.ticket c.args.start c.args.cuts.now _ _ _ _ c.in_ok-ban.ensures c.prune.ensures
