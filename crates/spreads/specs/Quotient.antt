-- The quotient of a length. Assumes nothing.
use Rattle.std.specs.Prelude.{◌≡◌, ℕ, ◌*◌, ◌≤◌}

-- q is 720720 / p where p is the length of a ticket, and else 0
pub record Quotient (p q : ℕ) : Type 0 where
  pub exact : 1 ≤ p → p ≤ 16 → q * p ≡ 720720
  pub none : ((1 ≤ p) × (p ≤ 16) → ⊥) → q ≡ 0
