use Rattle.std.proofs.Common.{◌+◌, ◌-◌, length, refl, ap, arith}
use borrow.Rule.Slice.PartMut.{put_mid}
use Rattle.listing.proofs.Placing.{placed_is}
use Rattle.listing.proofs.page.PageSink.put.Goals as goal

pub returns : goal.returns
returns c = (
  placed_is c.args.self.now.buffer.now c.args.text.now _ c.args.self.now.end (omega (arith, c.requires, c.args.self.now.within))
      (ap (put_mid c.args.self.now.end (c.args.self.now.end + length c.args.text.now - c.args.self.now.end) c.args.self.now.buffer.now) c.copy_from_slice.ensures.after),
  refl,
)
