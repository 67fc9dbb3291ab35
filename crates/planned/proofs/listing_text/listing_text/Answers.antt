use Rattle.std.proofs.Common.{sym, ◌∙◌}
use Rattle.planned.proofs.Written.{has_room, fills}
use Rattle.planned.proofs.listing_text.listing_text.Goals as goal

pub unwrap-requires : goal.unwrap-requires
unwrap-requires c =
    let (text, lists, long) = c.listing_length.ensures in
    has_room _ _ _ text c.deref_mut.result.now c.write_listing.new.buffer lists (c.deref_mut.ensures.len ∙ c.in_ok-text.ensures.len ∙ long) c.write_listing.result c.write_listing.ensures

pub returns : goal.returns
returns c =
    let (text, lists, long) = c.listing_length.ensures in
    rw (← c.collection.ensures, ← c.ceiling-ceiling.ensures, ← c.store.ensures)
    (fills _ _ _ text c.deref_mut.result.now c.write_listing.new.buffer lists (c.deref_mut.ensures.len ∙ c.in_ok-text.ensures.len ∙ long) c.write_listing.result c.unwrap.result c.unwrap.ensures c.write_listing.ensures _ _ (sym c.deref_mut.ensures.len))
