use Rattle.std.proofs.Common.{◌-◌}
use Rattle.listing.proofs.Rows.{Going}
use Rattle.listing.proofs.row_lines.write_ranges.Given as goal

abbrev pub invariant-loop-range : goal.invariant-loop-range
invariant-loop-range g l = Going g.W.Sink.room g.W.Sink.takes (g.S.Store.rows l.store l.row) l.initial.out l.out l.from

abbrev pub decreases-loop-range : goal.decreases-loop-range
decreases-loop-range g l = 258 - l.from
