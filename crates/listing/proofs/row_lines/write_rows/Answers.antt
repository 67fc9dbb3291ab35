use Rattle.listing.proofs.Tables.{lining_room, lining_more, lining_all}
use Rattle.listing.proofs.row_lines.write_rows.Goals as goal

pub write_row-requires : goal.write_row-requires
write_row-requires g c = lining_room _ _ _ _ _ _ _ c.loop-row.invariant c.loop-row-test.true

pub loop-row-preserved : goal.loop-row-preserved
loop-row-preserved g c = lining_more _ _ _ _ _ _ _ c.loop-row.invariant g.met.W.Sink.both g.met.W.Sink.rest _ c.loop-row-test.true c.write_row.ensures

pub returns : goal.returns
returns g c = lining_all _ _ _ _ _ _ _ c.loop-row.invariant g.met.W.Sink.nothing c.loop-row-test.false
