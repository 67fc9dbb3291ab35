use Rattle.listing.proofs.Rows.{leads_low, going_none, going_room, going_more, going_all}
use Rattle.listing.proofs.row_lines.write_ranges.Goals as goal

pub loop-range-init : goal.loop-range-init
loop-range-init g c = going_none _ _ _ _ c.requires

pub write_range-requires : goal.write_range-requires
write_range-requires g c = going_room _ _ g.met.W.Sink.both g.met.W.Sink.rest _ _ _ _ c.loop-range.invariant _ c.in-Some.ensures

pub loop-range-preserved : goal.loop-range-preserved
loop-range-preserved g c =
    let h = c.in-Some.ensures in
    going_more _ _ g.met.W.Sink.both g.met.W.Sink.rest _ _ _ _ c.loop-range.invariant _ _ h (leads_low _ _ _ _ (g.met.S.Store.bounded c.args.store.now) h) c.write_range.ensures

pub returns : goal.returns
returns g c = going_all _ _ g.met.W.Sink.both g.met.W.Sink.rest _ _ _ _ c.loop-range.invariant g.met.W.Sink.nothing c.in_default.ensures
