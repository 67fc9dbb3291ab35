use Rattle.std.proofs.Common.{refl}
use Rattle.tickets.specs.Collections.{posted}
use Rattle.day.proofs.Lines.{whole_text}
use Rattle.day.proofs.text.listing.Goals as goal

pub returns : goal.returns
returns c =
    let floor = rw (c.as_posted.ensures.same, c.as_posted.ensures.releases) at c.floor-floor.ensures in
    let rows = rw c.tickets.ensures at c.in_ok-push_rows.ensures in
    let bans = rw c.deref.ensures.value at c.in_ok-push_bans.ensures in (
      c.floor-floor.result,
      (posted c.args.contents.now.collection, refl, floor),
      whole_text _ _ _ _ _ _ _ _ c.ceiling-ceiling.ensures c.in_ok-text.ensures.ok rows bans,
    )
