-- The table at each open mark, read off the rows and the sets of the levels. Assumes nothing.
use Rattle.std.specs.Prelude.{List, [], ◌∷◌}
use Rattle.stores.specs.Sets.{Rows}
use Rattle.stores.specs.BitRows.{bit_rows}
use Rattle.stores.specs.declared.bit_store.BitStore.{BitStore}
use Rattle.planner.specs.Sets.{union}

-- the table at each mark, newest first, where R is what stands at the next, and the sets are what was taken out from each mark on, up to
-- the next: R, and what was taken out in between
abbrev pub at_marks : Rows → List BitStore → List Rows
at_marks R [] = []
at_marks R (x ∷ sets) = union R (bit_rows x) ∷ at_marks (union R (bit_rows x)) sets
