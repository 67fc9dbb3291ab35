-- What comes before what is an order, by the laws of `cmp`. Assumes nothing.
use Rattle.std.proofs.Common.{◌≡◌, ℕ, nat_lt, arith, ltb-true, ltb-false, le-ltb, true, false, true≢false, sym, refl, ap, ◌∙◌, Ordering, Less, Equal, Greater}
use Rattle.std.specs.Cmp.{IsTotalOrder}
use Rattle.std.specs.Ordering.{is_lt, is_gt, ordering_reverse}
use Rattle.std.proofs.lemmas.Cmp.{upto}
use Rattle.heap.specs.Trees.{below}

module _ {K : Type 0} (cmp : K → K → Ordering) (total : IsTotalOrder cmp) where
  turned : (a b : K) → below cmp a b ≡ is_gt (cmp b a)
  turned a b = ap is_lt (total.antisymm a b) ∙ back (cmp b a)
    where
      back : (r : Ordering) → is_lt (ordering_reverse r) ≡ is_gt r
      back Less = refl
      back Equal = refl
      back Greater = refl

  -- no two keys are before each other
  pub asymmetric : (a b : K) → below cmp a b ≡ true → below cmp b a ≡ false
  asymmetric a b h = one_way (cmp b a) (sym (turned a b) ∙ h)
    where
      one_way : (r : Ordering) → is_gt r ≡ true → is_lt r ≡ false
      one_way Less h = absurd (true≢false (sym h))
      one_way Equal h = refl
      one_way Greater h = refl

  -- what is not before passes on
  pub chains : (a b c : K) → below cmp b a ≡ false → below cmp c b ≡ false → below cmp c a ≡ false
  chains a b c h k = turned c a ∙ upto total a b c (sym (turned b a) ∙ h) (sym (turned c b) ∙ k)

  -- where keys that `cmp` finds equal are the same, different keys never tie
  pub apart : ((a b : K) → cmp a b ≡ Equal → a ≡ b) → (a b : K) → below cmp a b ≡ false → below cmp b a ≡ false → a ≡ b
  apart same a b h k = same a b (level (cmp a b) h (sym (turned b a) ∙ k))
    where
      level : (r : Ordering) → is_lt r ≡ false → is_gt r ≡ false → r ≡ Equal
      level Less h k = absurd (true≢false h)
      level Equal h k = refl
      level Greater h k = absurd (true≢false k)

-- of two numbers the lower comes first, and that is an order, by the test itself
pub lower_asymmetric : (a b : ℕ) → nat_lt a b ≡ true → nat_lt b a ≡ false
lower_asymmetric a b h = le-ltb b a (omega (arith, ltb-true a b h))

pub lower_chains : (a b c : ℕ) → nat_lt b a ≡ false → nat_lt c b ≡ false → nat_lt c a ≡ false
lower_chains a b c h k = le-ltb c a (omega (arith, ltb-false b a h, ltb-false c b k))

pub lower_apart : (a b : ℕ) → nat_lt a b ≡ false → nat_lt b a ≡ false → a ≡ b
lower_apart a b h k = omega (arith, ltb-false a b h, ltb-false b a k)
