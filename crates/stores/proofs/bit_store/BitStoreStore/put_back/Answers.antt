use Rattle.std.proofs.Common.{◌≡◌, false, sym, arith}
use Rattle.std.proofs.lemmas.Bool.Decides.{nat_tests}
use Rattle.stores.specs.Sets.{missing}
use Rattle.stores.specs.BitRows.{bit_rows}
use Rattle.stores.proofs.Moves.{with_present}
use Rattle.stores.proofs.Held.{rows_in, rows_with}
use Rattle.stores.proofs.bit_store.BitStoreStore.put_back.Goals as goal

pub returns-then-row-lt-ROWS : goal.returns-then-row-lt-ROWS
returns-then-row-lt-ROWS c =
    let s = c.args.self.now in
    let is = rows_in s c.args.row c.args.start (omega arith) in
    let was = c.put_back.ensures.was in
    record {
      was = grind (arith, nat_tests);
      left = rows_with s.rows c.args.row c.args.start c.put_back.new.self (omega arith) (omega arith) c.put_back.ensures.left;
    }

pub returns-else-row-lt-ROWS : goal.returns-else-row-lt-ROWS
returns-else-row-lt-ROWS c =
    let s = c.args.self.now in
    let out : missing (bit_rows s) c.args.row c.args.start ≡ false = grind (arith, nat_tests) in
    record { was = grind (arith, nat_tests); left = sym (with_present (bit_rows s) c.args.row c.args.start out) }
