use Rattle.std.proofs.Common.{◌≡◌}
use Rattle.std.specs.Iterator.Adapters.{enumerate_source, enumerate_count}
use Rattle.stores.specs.BitRows.{bit_rows}
use Rattle.planner.specs.Starts.{place}
use Rattle.planner.proofs.Listing.{Listed}
use Rattle.planner.proofs.cuts.list_cuts.Given as goal

abbrev pub invariant-loop-place : goal.invariant-loop-place
invariant-loop-place l =
    goal.iterator-loop-place.can_next l.place-iterator ×
    ((enumerate_source l.place-iterator).store.now ≡ l.gone) ×
    Listed (bit_rows l.gone) (place (enumerate_source l.place-iterator)) l.initial.cuts l.cuts (enumerate_count l.place-iterator)
