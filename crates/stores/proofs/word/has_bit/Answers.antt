use Rattle.std.proofs.Common.{◌%◌}
use Rattle.stores.proofs.Bits.{bit_test}
use Rattle.stores.proofs.word.has_bit.Goals as goal

pub returns : goal.returns
returns c = bit_test c.args.word (c.args.start % 64)
