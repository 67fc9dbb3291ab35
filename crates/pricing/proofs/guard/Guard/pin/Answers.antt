use Rattle.std.proofs.Common.{true, refl}
use Rattle.pricing.proofs.Entries.{found, pinned, put_back}
use Rattle.pricing.proofs.guard.Guard.pin.Goals as goal

pub returns-clause-pinned : goal.returns-clause-pinned
returns-clause-pinned c =
    let e = found _ _ c.args.ticket _ c.deref.ensures.0 c.requires c.index-deref-ticket.is in
    pinned _ _ c.args.ticket _ _ c.deref_mut.ensures.value e c.args.start true refl refl refl refl

pub returns-clause-restores : goal.returns-clause-restores
returns-clause-restores c =
    let e = found _ _ c.args.ticket _ c.deref.ensures.0 c.requires c.index-deref-ticket.is in
    put_back _ _ c.args.ticket _ _ c.deref_mut.ensures.value e
