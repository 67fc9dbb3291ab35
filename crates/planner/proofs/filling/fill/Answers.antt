use Rattle.runs.specs.Tables.{posted}
use Rattle.runs.specs.Supports.{setting}
use Rattle.planner.proofs.Walks.{mixed_more}
use Rattle.planner.proofs.Posting.{posted_row, posted_none}
use Rattle.planner.proofs.filling.fill.Goals as goal
use Rattle.planner.proofs.filling.fill.Goals.{in-Some, in_default}

pub loop-row-preserved : goal.loop-row-preserved
loop-row-preserved g c =
    let ts = c.args.tickets.now in
    let row = c.loop-row.row in
    elim c.match-get.branch [
      | in-Some w ↦
          let (_, at, _, (l, _), _) = w.in-Some.ensures.lookup in
          rw w.store-is (mixed_more (posted (setting ts)) _ _ _ _ row c.loop-row.invariant c.empty_row.ensures (posted_row ts _ _ row w.in-Some.ticket.now l at w.fill_row.ensures))
      | in_default w ↦
          let (_, _, _, past, _) = w.in_default.ensures.lookup in
          rw w.store-is (mixed_more (posted (setting ts)) _ _ _ _ row c.loop-row.invariant c.empty_row.ensures (posted_none ts _ row past))
    ]
