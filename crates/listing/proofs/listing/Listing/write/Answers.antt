use Rattle.std.proofs.Common.{length, sym, refl, ap, subst, arith}
use Rattle.listing.specs.Texts.{row_lines}
use Rattle.listing.proofs.Lengths.{text_length}
use Rattle.listing.proofs.listing.Listing.write.Goals as goal

pub write_rows-requires : goal.write_rows-requires
write_rows-requires g c =
    let (text, (rss, t, e), fits) = c.requires in
    let rest = g.met.W.Sink.rest in
    (row_lines 0 rss, (rss, t, refl), omega (arith, ap length e, text_length c.args.self.now.floor c.args.self.now.ceiling rss, rest _ _ _ c.write_line.ensures, rest _ _ _ c.write_line-2.ensures))

pub returns : goal.returns
returns g c text (rss, t, e) =
    let both = g.met.W.Sink.both in
    subst (λ x. g.W.Sink.takes c.args.out.now x c.write_rows.new.out) (sym e) (both _ _ _ _ _ c.write_line.ensures (both _ _ _ _ _ c.write_line-2.ensures (c.write_rows.ensures (row_lines 0 rss) (rss, t, refl))))
