use Rattle.std.proofs.Common.{◌≡◌, Err, rules}
use Rattle.planned.proofs.Records.{none_posted, posted_more, posted_first}
use Rattle.planned.proofs.collecting.collect.Goals as goal

pub loop-placed-init : goal.loop-placed-init
loop-placed-init c = none_posted c.args.records.now c.new-collection.result c.new-collection.ensures

pub returns-in_err-post : goal.returns-in_err-post
returns-in_err-post c =
    let is : c.from_residual.result ≡ Err c.in_err-post.field-0.0 = search rules in
    rw is (posted_first c.args.records.now c.loop-placed.placed-index c.loop-placed.collection c.loop-placed-test.true c.loop-placed.invariant c.in_err-post.field-0.0 c.post.new.collection c.in_err-post.ensures)

pub loop-placed-preserved : goal.loop-placed-preserved
loop-placed-preserved c =
    posted_more c.args.records.now c.loop-placed.placed-index c.loop-placed.collection c.loop-placed-test.true c.loop-placed.invariant tt c.post.new.collection c.in_ok-post.ensures
