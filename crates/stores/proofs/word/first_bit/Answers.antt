use Rattle.std.proofs.Common.{arith}
use Rattle.stores.proofs.BitCounts.{first_none, first_some}
use Rattle.stores.proofs.word.first_bit.Goals as goal

pub returns-in-0 : goal.returns-in-0
returns-in-0 c = first_none c.args.word c.args.from (omega arith)

pub returns-in_default : goal.returns-in_default
returns-in_default c = first_some c.args.word c.args.from (omega arith) c.requires (omega arith)
