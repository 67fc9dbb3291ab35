-- What waits in a heap, by its numbers. Assumes nothing.
use Rattle.std.proofs.Common.{◌≡◌, ℕ, zero, suc, ◌+◌, ◌⊎◌, List, [], ◌∷◌, length, sym, ap, ◌∙◌, inl, inr, le_of_suc-le-suc, arith}
use Rattle.std.specs.List.{ContainsAt, AllByRecursion}
use Rattle.std.specs.List.Sorted.{IsPermutation}
use Rattle.std.proofs.ByRecursion.{has_get_or, has_append_right, all_shuffled, has_shuffled}
use Rattle.std.proofs.lemmas.List.Sorted.{length_permutation}
use Rattle.pricing.specs.Steps.{In}

has_cons : {X : Type 0} (a : X) (xs : List X) (x : X) → ContainsAt (a ∷ xs) x → (a ≡ x) ⊎ ContainsAt xs x
has_cons a xs x (zero, l, h) = inl (h a)
has_cons a xs x (suc k, l, h) = inr (k, le_of_suc-le-suc l, h)

module _ {X : Type 0} (number : X → ℕ) where
  -- x is taken out of xs
  module _ (xs : List X) (x : X) (ys : List X) (s : IsPermutation xs (x ∷ ys)) where
    pub in_taken : (i : ℕ) → In number xs i → (i ≡ number x) ⊎ In number ys i
    in_taken i (y, h, e) = at (has_cons x ys y (has_shuffled xs (x ∷ ys) y s h))
      where
        at : (x ≡ y) ⊎ ContainsAt ys y → (i ≡ number x) ⊎ In number ys i
        at (inl q) = inl (sym e ∙ ap number (sym q))
        at (inr q) = inr (y, q, e)

    pub all_taken : (P : X → Type 0) → AllByRecursion P xs → AllByRecursion P ys
    all_taken P h = (all_shuffled P xs (x ∷ ys) s h).1

    pub one_taken : (P : X → Type 0) → AllByRecursion P xs → P x
    one_taken P h = (all_shuffled P xs (x ∷ ys) s h).0

    pub length_taken : length ys + 1 ≡ length xs
    length_taken = omega (arith, length_permutation xs (x ∷ ys) s)

  -- x is put to xs
  module _ (xs : List X) (x : X) (ys : List X) (s : IsPermutation (x ∷ xs) ys) where
    pub in_old : (i : ℕ) → In number xs i → In number ys i
    in_old i (y, h, e) = (y, has_shuffled (x ∷ xs) ys y s (has_append_right (x ∷ []) xs y h), e)

    pub in_new : (i : ℕ) → number x ≡ i → In number ys i
    in_new i e = (x, has_shuffled (x ∷ xs) ys x s (has_get_or (x ∷ xs) 0 x (omega arith)), e)

    pub all_put : (P : X → Type 0) → AllByRecursion P xs → P x → AllByRecursion P ys
    all_put P h p = all_shuffled P (x ∷ xs) ys s (p, h)

    pub length_put : length ys ≡ length xs + 1
    length_put = omega (arith, length_permutation (x ∷ xs) ys s)
