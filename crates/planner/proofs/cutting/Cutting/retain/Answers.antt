use Rattle.planner.proofs.Walks.{out_trans}
use Rattle.planner.proofs.Retaining.{walked_stay, walked_cut}
use Rattle.std.proofs.Common.{◌∙◌}
use Rattle.planner.proofs.cutting.Cutting.retain.Goals as goal
use Rattle.planner.proofs.cutting.Cutting.retain.Goals.{then-not-keep, else-not-keep}

pub loop-start-preserved : goal.loop-start-preserved
loop-start-preserved g c =
    let (walked, cuts) = c.loop-start.invariant in
    let first = c.in-Some.ensures in
    elim c.if-not-keep.branch [
      | then-not-keep w ↦ rw w.self-is (
        walked_cut _ c.args.row _ _ _ c.loop-start.next c.in-Some.start first w.if-not-keep.ensures w.cut.ensures.table walked,
        record { name = w.cut.ensures.cuts.name ∙ cuts.name; out = out_trans _ _ _ _ _ _ cuts.out w.cut.ensures.cuts.out },
      )
      | else-not-keep w ↦ rw w.self-is (walked_stay _ c.args.row _ _ c.loop-start.next c.in-Some.start first w.if-not-keep.ensures walked, cuts)
    ]
