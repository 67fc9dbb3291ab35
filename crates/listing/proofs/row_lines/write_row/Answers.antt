use Rattle.std.proofs.Common.{length, sym, refl, ap, subst, arith}
use Rattle.listing.specs.Texts.{ranges_text}
use Rattle.listing.proofs.Lengths.{row_length}
use Rattle.listing.proofs.row_lines.write_row.Goals as goal

pub put-requires : goal.put-requires
put-requires g c =
    let (text, (rs, h, e), fits) = c.requires in
    let rest = g.met.W.Sink.rest in
    omega (arith, ap length e, row_length c.args.row rs, rest _ _ _ c.write_number.ensures, rest _ _ _ (c.write_ranges.ensures (ranges_text rs) (rs, h, refl)))

pub returns : goal.returns
returns g c text (rs, h, e) =
    let both = g.met.W.Sink.both in
    subst (λ x. g.W.Sink.takes c.args.out.now x c.put.new.self) (sym e) (both _ _ _ _ _ c.write_number.ensures (both _ _ _ _ _ (c.write_ranges.ensures (ranges_text rs) (rs, h, refl)) c.put.ensures))
