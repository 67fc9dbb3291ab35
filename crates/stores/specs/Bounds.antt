-- A bit store holds nothing out of range: the law of stores, for it. Assumes nothing.
use Rattle.std.proofs.Common.{arith}
use Rattle.std.proofs.lemmas.Bool.Decides.{nat_tests}
use Rattle.stores.specs.Sets.{Bounded}
use Rattle.stores.specs.BitRows.{bit_rows}
use Rattle.stores.specs.declared.bit_store.BitStore.{BitStore}

pub rows_bounded : (s : BitStore) → Bounded (bit_rows s)
unfolding bit_rows
rows_bounded s i t h = (grind (arith, nat_tests), grind (arith, nat_tests))
