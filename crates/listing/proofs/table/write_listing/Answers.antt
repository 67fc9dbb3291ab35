use Rattle.std.proofs.Common.{arith, rules}
use Rattle.listing.proofs.Listings.{refused, listed}
use Rattle.listing.proofs.table.write_listing.Goals as goal

pub returns-then-buffer-length : goal.returns-then-buffer-length
returns-then-buffer-length g c = refused _ _ _ _ _ c.of-listing.ensures c.length.ensures c.args.buffer.now (omega arith)

pub returns : goal.returns
returns g c = listed _ _ _ _ _ c.of-listing.ensures c.length.ensures _ _ _ _ (omega arith) c.fill.ensures.placed (search rules)
