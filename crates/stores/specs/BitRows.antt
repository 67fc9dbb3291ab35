-- What a bit store means. Assumes nothing.
use Rattle.std.specs.Prelude.{ℕ, ◌/◌, ◌%◌, Bool, ◌&&◌, [], nat_lt, slice_index, slice_index_or}
use Rattle.stores.specs.Sets.{Rows}
use Rattle.stores.specs.Words.{bit}
use Rattle.stores.specs.declared.row.Row.{Row}
use Rattle.stores.specs.declared.bit_store.BitStore.{BitStore}

-- the starts of a row: start t is bit t % 64 of word t / 64
abbrev pub starts_of : Row → ℕ → Bool
starts_of r t = nat_lt t 256 && bit (slice_index r.words (t / 64)) (t % 64)

-- what a list of rows has past its end
abbrev pub no_row : Row
no_row = record { words = [] }

-- the rows of a store, in order
unfoldable pub bit_rows : BitStore → Rows
bit_rows s i t = nat_lt i 24 && starts_of (slice_index_or s.rows i no_row) t
