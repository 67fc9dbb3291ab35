use Rattle.std.proofs.Common.{◌≡◌, Err, rules}
use Rattle.planned.proofs.Plans.{none_banned, banned_more, banned_first, all_banned}
use Rattle.planned.proofs.bans.ban_all.Goals as goal

pub loop-placed-init : goal.loop-placed-init
loop-placed-init c = none_banned c.args.records.now c.args.planner.now c.requires

pub returns-in_err-ban : goal.returns-in_err-ban
returns-in_err-ban c =
    let is : c.from_residual.result ≡ Err c.in_err-ban.field-0.0 = search rules in
    rw is (banned_first c.args.records.now c.loop-placed.placed-index c.args.planner.now c.loop-placed.planner c.ban.new.planner c.requires c.loop-placed-test.true c.loop-placed.invariant c.in_err-ban.field-0.0 c.in_err-ban.ensures)

pub loop-placed-preserved : goal.loop-placed-preserved
loop-placed-preserved c =
    banned_more c.args.records.now c.loop-placed.placed-index c.args.planner.now c.loop-placed.planner c.ban.new.planner c.requires c.loop-placed-test.true c.loop-placed.invariant tt c.in_ok-ban.ensures

pub returns : goal.returns
returns c = all_banned c.args.records.now c.loop-placed.placed-index c.loop-placed.planner c.loop-placed-test.false c.loop-placed.invariant
