use Rattle.stores.proofs.Held.{starts_none, rows_none}
use Rattle.stores.proofs.bit_store.BitStore.empty.Goals as goal

pub returns : goal.returns
returns c = rows_none c.empty.result (starts_none c.empty.result c.empty.ensures)
