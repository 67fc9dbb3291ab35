use Rattle.std.proofs.Common.{Some, ◌∙◌, subst, arith}
use Rattle.tickets.specs.Collections.{posted}
use Rattle.runs.specs.Supports.{setting}
use Rattle.runs.proofs.Supports.{laws}
use Rattle.runs.proofs.Pruning.{narrowed_empty}
use Rattle.planner.specs.Trims.{RoundDone}
use Rattle.planner.proofs.Rounds.{trim_trans, settled_largest, settled_none}
use Rattle.planner.proofs.cutting.Cutting.settle.Goals as goal

pub returns-in_err-releases-clause-done : goal.returns-in_err-releases-clause-done
returns-in_err-releases-clause-done g c =
    let ts = posted c.args.collection.now in
    let (i, l, none) = c.in_err-releases.ensures.releases in
    rw c.from_residual.ensures (narrowed_empty (setting ts) c.args.ceiling _ _ c.loop-releases.invariant.1.narrowed i l (λ t. none t (omega arith)))

pub returns-in_err-trim_round : goal.returns-in_err-trim_round
returns-in_err-trim_round g c =
    let ts = posted c.args.collection.now in
    let (name, trim) = c.loop-releases.invariant in
    let f = c.in_err-trim_round.ensures in
    record {
      name = f.name ∙ name;
      trim = trim_trans (setting ts) (laws ts) c.args.ceiling _ _ _ _ _ _ trim f.trim;
      done = rw c.from_residual-in_err-trim_round.ensures (settled_none (setting ts) (laws ts) c.args.ceiling _ _ trim.narrowed f.done);
    }

pub returns-then-not-branch : goal.returns-then-not-branch
returns-then-not-branch g c =
    let ts = posted c.args.collection.now in
    let (name, trim) = c.loop-releases.invariant in
    let f = c.in_ok-trim_round.ensures in
    record {
      name = f.name ∙ name;
      trim = trim_trans (setting ts) (laws ts) c.args.ceiling _ _ _ _ _ _ trim f.trim;
      done = settled_largest (setting ts) (laws ts) c.args.ceiling _ _ _ trim.narrowed (subst (λ b. RoundDone (setting ts) c.args.ceiling (g.S.Store.rows c.loop-releases.self.store.now) (g.S.Store.rows c.trim_round.new.self.store.now) (Some b)) c.if-not-branch.true f.done);
    }

pub loop-releases-preserved : goal.loop-releases-preserved
loop-releases-preserved g c =
    let ts = posted c.args.collection.now in
    let (name, trim) = c.loop-releases.invariant in
    let f = c.in_ok-trim_round.ensures in
    (f.name ∙ name, trim_trans (setting ts) (laws ts) c.args.ceiling _ _ _ _ _ _ trim f.trim)
