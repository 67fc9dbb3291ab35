use Rattle.stores.proofs.Firsts.{set_laws}
use Rattle.stores.proofs.store.set_laws.Goals as goal

pub returns : goal.returns
returns c = set_laws
