use Rattle.std.proofs.Common.{length, ap, ◌∙◌, arith}
use Rattle.tickets.specs.Collections.{posted}
use Rattle.spreads.specs.Spreads.{release}
use Rattle.runs.specs.Supports.{setting}
use Rattle.runs.proofs.Supports.{laws}
use Rattle.planner.proofs.Rounds.{round_next, round_emptied, round_done}
use Rattle.planner.proofs.cutting.Cutting.trim_round.Goals as goal

pub returns-in_err-moved : goal.returns-in_err-moved
returns-in_err-moved g c =
    let ts = posted c.args.support.now.released.collection.now in
    let f = c.in_err-moved.ensures in
    let (name, so_far) = c.loop-row.invariant in
    let (trim, none) =
    round_emptied (setting ts) (laws ts) c.args.support.now.ceiling (release c.args.support.now.released.releases) _ _ _ _ _ _ c.loop-row.row _
    (omega (arith, ap length c.tickets-row-end.ensures)) c.requires.here so_far f.trim f.cuts.out f.least in
    record { name = f.cuts.name ∙ name; trim = trim; done = rw c.from_residual.ensures none }

pub loop-row-preserved : goal.loop-row-preserved
loop-row-preserved g c =
    let ts = posted c.args.support.now.released.collection.now in
    let f = c.in_ok-moved.ensures in
    let (name, so_far) = c.loop-row.invariant in (
      f.cuts.name ∙ name,
      round_next (setting ts) (laws ts) c.args.support.now.ceiling (release c.args.support.now.released.releases) _ _ _ _ _ _ c.loop-row.row _
          (omega (arith, ap length c.tickets-row-end.ensures)) c.requires.here so_far f.trim f.cuts.out c.in_ok-moved.field-0 f.least,
    )

pub returns-clause-done : goal.returns-clause-done
returns-clause-done g c =
    let ts = posted c.args.support.now.released.collection.now in
    round_done (setting ts) (laws ts) c.args.support.now.ceiling (release c.args.support.now.released.releases) _ _ _ _ c.loop-row.row c.loop-row.moved
    (omega (arith, ap length c.tickets-row-end.ensures)) (g.met.S.Store.bounded c.args.self.now.store.now) c.requires.here c.loop-row.invariant.1
