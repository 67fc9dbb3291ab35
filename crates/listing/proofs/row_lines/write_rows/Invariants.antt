use Rattle.listing.proofs.Tables.{Lining}
use Rattle.listing.proofs.row_lines.write_rows.Given as goal

abbrev pub invariant-loop-row : goal.invariant-loop-row
invariant-loop-row g l = Lining g.W.Sink.room g.W.Sink.takes (g.S.Store.rows l.store) l.count l.initial.out l.out l.row
