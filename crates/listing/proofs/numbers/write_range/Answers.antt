use Rattle.listing.proofs.numbers.write_range.Goals as goal

pub returns : goal.returns
returns g c =
    let both = g.met.W.Sink.both in
    both _ _ _ _ _ c.put.ensures (both _ _ _ _ _ c.write_number.ensures (both _ _ _ _ _ c.put-2.ensures c.write_number-2.ensures))
