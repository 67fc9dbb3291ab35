use Rattle.std.proofs.Common.{◌≡◌, ℕ, ◌+◌, ◌*◌, ◌<◌, ◌≤◌, false}
use Rattle.stores.specs.BitRows.{starts_of}
use Rattle.stores.proofs.row.Row.after.Given as goal

abbrev pub invariant-loop-place : goal.invariant-loop-place
invariant-loop-place l =
    (l.from < 64) × (l.start ≤ 64 * l.place + l.from) × ((t : ℕ) → l.start ≤ t → t < 64 * l.place + l.from → starts_of l.self t ≡ false)
