-- What orders leave of a table. Assumes nothing.
use Rattle.std.proofs.Common.{◌≡◌, ℕ, ◌≤◌, true, ◌⊎◌, List, [], ◌∷◌, ap, ◌∙◌, inl, inr, arith}
use Rattle.std.proofs.lemmas.Bool.{cases_eq}
use Rattle.std.proofs.lemmas.Bool.Decides.{nat_tests}
use Rattle.stores.specs.Sets.{without, size_of}
use Rattle.stores.proofs.Moves.{without_held, without_other}
use Rattle.runs.specs.Tables.{Table, Setting, posted, Within, Full}
use Rattle.runs.specs.Orders.{Order, ban, fix, fixed, less, ordered}
use Rattle.runs.proofs.Starts.{another}

pub fixed_other : (T : Table) (i t j u : ℕ) → (j ≡ i → ⊥) → fixed T i t j u ≡ T j u
unfolding fixed
fixed_other T i t j u h = grind (arith, nat_tests)

pub fixed_held : (T : Table) (i t : ℕ) → T i t ≡ true → fixed T i t i t ≡ true
unfolding fixed
fixed_held T i t h = grind (arith, nat_tests)

pub less_within : (o : Order) (T : Table) → Within (less o T) T
unfolding fixed
less_within (ban i t) T j u h = without_held T i t j u h
less_within (fix i t) T j u h = grind (arith, nat_tests)

-- what an order leaves of T and S has, it leaves of S
pub less_both : (o : Order) (T S : Table) (j u : ℕ) → less o T j u ≡ true → S j u ≡ true → less o S j u ≡ true
unfolding without fixed
less_both (ban i t) T S j u h k = grind (arith, nat_tests)
less_both (fix i t) T S j u h k = grind (arith, nat_tests)

module _ (w : Setting) where
  pub ordered_within : (os : List Order) → Within (ordered w os) (posted w)
  ordered_within [] i t h = h
  ordered_within (o ∷ os) i t h = ordered_within os i t (less_within o (ordered w os) i t h)

  -- a ban of one start of several, and a fixing of one that stands, leave each ticket a start
  pub ban_full : (T : Table) (i t : ℕ) → T i t ≡ true → 2 ≤ size_of (T i) → Full w T → Full w (less (ban i t) T)
  ban_full T i t on two full j l = by (cases_eq j i)
    where
      by : (j ≡ i) ⊎ (j ≡ i → ⊥) → (u : ℕ) × (without T i t j u ≡ true)
      by (inl e) = let (u, held) = another T i t on two in (u, ap (λ k. without T i t k u) e ∙ held)
      by (inr o) = let (u, held) = full j l in (u, without_other T i t j u (λ e _. o e) ∙ held)

  pub fix_full : (T : Table) (i t : ℕ) → T i t ≡ true → Full w T → Full w (less (fix i t) T)
  fix_full T i t on full j l = by (cases_eq j i)
    where
      by : (j ≡ i) ⊎ (j ≡ i → ⊥) → (u : ℕ) × (fixed T i t j u ≡ true)
      by (inl e) = (t, ap (λ k. fixed T i t k t) e ∙ fixed_held T i t on)
      by (inr o) = let (u, held) = full j l in (u, fixed_other T i t j u o ∙ held)
