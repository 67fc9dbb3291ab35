use Rattle.std.proofs.Common.{◌%◌, arith}
use Rattle.stores.proofs.Bits.{bit_set}
use Rattle.stores.proofs.word.with_bit.Goals as goal

pub returns : goal.returns
returns c k = bit_set c.args.word (c.args.start % 64) k (omega arith)
