-- Walking the starts of a store, row by row. Assumes nothing.
use Rattle.std.specs.Prelude.{◌≡◌, ℕ, ◌+◌, ◌*◌, ◌≤◌, true, false, Some, None, Option}
use Rattle.stores.specs.Sets.{Rows}
use Rattle.planner.specs.declared.starts.Starts.{Starts}

-- how far a walk has come, where start t of row i stands at 256 * i + t
abbrev pub place : {S : Type 0} → Starts S → ℕ
place s = 256 * s.row + s.next

-- start t of row i is the first of R at or after the place `from`, and `to` is the place after it
pub record FirstAt (R : Rows) (from to i t : ℕ) : Type 0 where
  pub held : R i t ≡ true
  pub reached : from ≤ 256 * i + t
  pub gap : (j u : ℕ) → R j u ≡ true → from ≤ 256 * j + u → 256 * i + t ≤ 256 * j + u
  pub passed : to ≡ 256 * i + (t + 1)

-- the first start at or after the place `from`, and its row; nothing, where there is none
abbrev pub NextAt : Rows → ℕ → ℕ → Option (ℕ × ℕ) → Type 0
NextAt R from to (Some (i, t)) = FirstAt R from to i t
NextAt R from to None = (i t : ℕ) → from ≤ 256 * i + t → R i t ≡ false

-- a walk that had come to s goes on to r, and has come to s' then
pub record Walks {S : Type 0} (rows : S → Rows) (s : Starts S) (r : Option (ℕ × ℕ)) (s' : Starts S) : Type 0 where
  pub store : s'.store.now ≡ s.store.now
  pub next : NextAt (rows s.store.now) (place s) (place s') r
