use Rattle.std.proofs.Common.{sym, ◌∙◌, arith}
use Rattle.std.proofs.lemmas.Bool.Decides.{nat_tests}
use Rattle.stores.specs.BitRows.{bit_rows}
use Rattle.stores.proofs.Moves.{without_absent}
use Rattle.stores.proofs.Held.{rows_in, rows_past, rows_without}
use Rattle.stores.proofs.bit_store.BitStoreStore.take_out.Goals as goal

pub returns-then-row-lt-ROWS : goal.returns-then-row-lt-ROWS
returns-then-row-lt-ROWS c =
    let s = c.args.self.now in
    record {
      was = c.take_out.ensures.was ∙ sym (rows_in s c.args.row c.args.start (omega arith));
      left = rows_without s.rows c.args.row c.args.start c.take_out.new.self (omega arith) (omega arith) c.take_out.ensures.left;
    }

pub returns-else-row-lt-ROWS : goal.returns-else-row-lt-ROWS
returns-else-row-lt-ROWS c =
    let s = c.args.self.now in
    let out = rows_past s c.args.row c.args.start (omega arith) in
    record { was = grind (arith, nat_tests); left = sym (without_absent (bit_rows s) c.args.row c.args.start out) }
