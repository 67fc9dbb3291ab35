use Rattle.std.proofs.Common.{◌≡◌, rules, arith, slice_index_or}
use Rattle.std.proofs.lemmas.Option.{unwrap_or-slice_get}
use Rattle.stores.proofs.Held.{row_held}
use Rattle.stores.proofs.bit_store.BitStore.row_at.Goals as goal

pub returns : goal.returns
returns c t =
    let s = c.args.self.now in
    let found : c.unwrap_or.result ≡ slice_index_or s.rows c.args.row c.empty.result = search (rules, unwrap_or-slice_get) in
    rw found (row_held s c.empty.result (omega arith) c.empty.ensures c.args.row t)
