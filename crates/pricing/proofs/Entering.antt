-- Entering one ticket after the other. Assumes nothing.
use Rattle.std.proofs.Common.{◌≡◌, ℕ, ◌+◌, ◌<◌, ◌⊎◌, List, ◌∷◌, get_or, set, sym, ap, ◌∙◌, inl, inr, arith, length-set, get_or-set_other, get_or-set_same}
use Rattle.std.specs.List.Sorted.{IsPermutation}
use Rattle.std.proofs.ByRecursion.{All-weaker}
use Rattle.std.proofs.lemmas.Bool.{cases_eq}
use Rattle.pricing.specs.declared.work.Work.{Work}
use Rattle.pricing.specs.declared.keys.Release.{Release}
use Rattle.pricing.specs.Works.{entry}
use Rattle.pricing.specs.Steps.{Coming, Ours, Entered}
use Rattle.pricing.proofs.Bags.{in_old, in_new, all_put, length_put}

-- the ticket n is entered
pub one_entered : (xs : List Work) (n : ℕ) (C C' : List Release) (left : List ℕ) → n < 24 → Entered xs n C left
    → (x : Release) → x.number ≡ n → x.slot ≡ (entry xs n).release → IsPermutation (x ∷ C) C'
    → (p : ℕ) → p ≡ (entry xs n).length → Entered xs (n + 1) C' (set left n p)
one_entered xs n C C' left few e x num slot put p is = record {
  many = omega (arith, length_put (λ (x : Release). x.number) C x C' put, e.many);
  ours = all_put (λ (x : Release). x.number) C x C' put (Ours xs (n + 1)) (All-weaker (Ours xs n) (Ours xs (n + 1)) (λ y h. (omega (arith, h.0), h.1)) C e.ours) (omega arith, slot ∙ ap (λ k. (entry xs k).release) (sym num));
  all = λ i h. all i h (cases_eq i n);
  places = length-set left n p ∙ e.places;
  here = λ i h. here i h (cases_eq i n);
  past = λ i h. get_or-set_other left n i p 0 (λ q. omega arith) ∙ e.past i (omega arith);
}
  where
    all : (i : ℕ) → i < n + 1 → (i ≡ n) ⊎ (i ≡ n → ⊥) → Coming C' i
    all i h (inl q) = in_new (λ (x : Release). x.number) C x C' put i (num ∙ sym q)
    all i h (inr o) = in_old (λ (x : Release). x.number) C x C' put i (e.all i (omega (arith, o)))

    here : (i : ℕ) → i < n + 1 → (i ≡ n) ⊎ (i ≡ n → ⊥) → get_or (set left n p) i 0 ≡ (entry xs i).length
    here i h (inl q) = ap (λ k. get_or (set left n p) k 0) q ∙ get_or-set_same left n p 0 (omega (arith, e.places)) ∙ is ∙ ap (λ k. (entry xs k).length) (sym q)
    here i h (inr o) = get_or-set_other left n i p 0 o ∙ e.here i (omega (arith, o))
