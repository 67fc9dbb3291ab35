-- What a refusal is, for every layer. Assumes nothing.
use Rattle.std.specs.Prelude.{ℕ, ◌<◌}

-- a refusal by its number and the set of values that meet its condition
pub record Meaning (V : Type 0) : Type 1 where
  pub number : ℕ
  pub meets : V → Type 0

-- e is the answer to v: v meets its condition, and that of no lower number
pub record Answers {E V : Type 0} (meaning : E → Meaning V) (v : V) (e : E) : Type 0 where
  pub meets : (meaning e).meets v
  pub first : (d : E) → (meaning d).number < (meaning e).number → (meaning d).meets v → ⊥

-- v meets no condition: nothing is refused
abbrev pub Clear : {E V : Type 0} → (E → Meaning V) → V → Type 0
Clear {E} meaning v = (e : E) → (meaning e).meets v → ⊥
