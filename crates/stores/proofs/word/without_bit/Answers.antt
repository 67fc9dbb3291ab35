use Rattle.std.proofs.Common.{◌%◌, arith}
use Rattle.stores.proofs.Bits.{bit_clear}
use Rattle.stores.proofs.word.without_bit.Goals as goal

pub returns : goal.returns
returns c k = bit_clear c.args.word (c.args.start % 64) k (omega arith) (omega arith)
