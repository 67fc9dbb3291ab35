use Rattle.std.proofs.Common.{◌≡◌, Err, ap, ◌∙◌, rules}
use Rattle.planner_tests.proofs.Tries.{unmarked, unmarked_full, unmarked_tells, token_taken, gone_back, had_room, marked_tells}
use Rattle.planner_tests.proofs.trying.what_if.Goals as goal

pub returns-in_err-token-clause-unchanged : goal.returns-in_err-token-clause-unchanged
returns-in_err-token-clause-unchanged g c = unmarked g.S.Store.rows c.args.planner.now c.args.ticket c.args.start c.args.cuts.now _ _ c.in_err-token.ensures

pub returns-in_err-token-clause-full : goal.returns-in_err-token-clause-full
returns-in_err-token-clause-full g c full =
    let is : c.from_residual.result ≡ Err c.in_err-token.field-0.0 = search rules in
    is ∙ ap Err (unmarked_full g.S.Store.rows c.args.planner.now c.args.ticket c.args.start c.args.cuts.now _ _ c.in_err-token.ensures)

pub returns-in_err-token-clause-tells : goal.returns-in_err-token-clause-tells
returns-in_err-token-clause-tells g c =
    let is : c.from_residual.result ≡ Err c.in_err-token.field-0.0 = search rules in
    rw is (unmarked_tells g.S.Store.rows c.args.planner.now c.args.ticket c.args.start c.args.cuts.now _ _ c.in_err-token.ensures)

pub unreachable-requires : goal.unreachable-requires
unreachable-requires g c =
    token_taken g.S.Store.rows c.args.planner.now c.args.ticket c.args.start c.args.cuts.now _ _ _ _ _ _ c.in_ok-token.ensures
    c.ban_and_prune-answer.ensures _ _ c.in-Err.ensures.moved

pub returns-clause-unchanged : goal.returns-clause-unchanged
returns-clause-unchanged g c =
    gone_back g.S.Store.rows c.args.planner.now c.args.ticket c.args.start c.args.cuts.now _ _ _ _ _ _ c.in_ok-token.ensures
    c.ban_and_prune-answer.ensures _ c.in-Ok.ensures.moved

pub returns-clause-full : goal.returns-clause-full
returns-clause-full g c full =
    absurd (had_room g.S.Store.rows c.args.planner.now c.args.ticket c.args.start c.args.cuts.now _ _ _ _ _ _ c.in_ok-token.ensures c.ban_and_prune-answer.ensures full)

pub returns-clause-tells : goal.returns-clause-tells
returns-clause-tells g c =
    marked_tells g.S.Store.rows c.args.planner.now c.args.ticket c.args.start c.args.cuts.now _ _ _ _ _ _ c.in_ok-token.ensures c.ban_and_prune-answer.ensures
