-- A word of 64 bits as a set of the numbers from 0 to 63. Assumes nothing.
use Rattle.std.specs.Prelude.{◌≡◌, ℕ, ◌/◌, ◌%◌, ◌^◌, ◌<◌, ◌≤◌, Bool, false, Some, None, Option, ◌==◌}
use Rattle.stores.specs.Sets.{Earliest}

-- bit k of the word w is set
unfoldable pub bit : ℕ → ℕ → Bool
bit w k = w / 2 ^ k % 2 == 1

-- the answer is the first bit of the word f at or after `from`; nothing, where there is none below 64
abbrev pub FirstBit : (ℕ → Bool) → ℕ → Option ℕ → Type 0
FirstBit f from (Some v) = Earliest f from v × (v < 64)
FirstBit f from None = (k : ℕ) → from ≤ k → k < 64 → f k ≡ false
