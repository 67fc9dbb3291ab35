-- What is found in front of the line of releases. Assumes nothing.
use Rattle.std.proofs.Common.{◌≡◌, ℕ, ◌≤◌, Bool, true, false, nat_lt, List, [], ◌∷◌, Some, None, Option, sym, refl, ◌∙◌, subst, arith, ltb-true, ltb-false}
use Rattle.std.specs.List.{AllByRecursion}
use Rattle.std.specs.List.Sorted.{IsPermutation}
use Rattle.std.proofs.ByRecursion.{All-weaker}
use Rattle.heap.specs.Trees.{below, Front}
use Rattle.pricing.specs.declared.keys.Release.{Release}
use Rattle.pricing.specs.declared.step.Playing.{Playing}
use Rattle.pricing.specs.declared.step.Event.{Event}
use Rattle.pricing.specs.declared.step.Event.TheVariants.{Release as Released}
use Rattle.pricing.specs.Keys.{sooner, release_cmp}
use Rattle.pricing.specs.Laws.{not_sooner, sooner_is}
use Rattle.pricing.specs.Steps.{completion_of, Before, Next}

-- what comes is not before the one in front
pub later : (C : List Release) (x : Release) (t : ℕ) → Front sooner C x → t ≤ x.slot → AllByRecursion (λ y. t ≤ y.slot) C
later C x t f h = All-weaker (λ y. sooner y x ≡ false) (λ y. t ≤ y.slot) (λ y k. omega (arith, not_sooner x y k)) C f.least

-- of nothing all is so
pub all_none : {X : Type 0} (P : X → Type 0) (xs : List X) → xs ≡ [] → AllByRecursion P xs
all_none P xs e = subst (AllByRecursion P) (sym e) tt

-- b tells whether the one in front comes before what plays is done
module _ (left : List ℕ) (C : List Release) (x : Release) (line : Front (below release_cmp) C x) (b : Bool) where
  front : Front sooner C x
  front = subst (λ (before : Release → Release → Bool). Front before C x) sooner_is line

  before : (playing : Option Playing) → b ≡ true → ((e : Event × ℕ) → completion_of playing left ≡ Some e → b ≡ nat_lt x.slot e.1) → Before playing left x.slot
  before None h tells = tt
  before (Some p) h tells = ltb-true x.slot _ (sym (tells _ refl) ∙ h)

  pub is_released : (playing : Option Playing) (C' : List Release) (j at : ℕ) → x.number ≡ j → x.slot ≡ at → b ≡ true → ((e : Event × ℕ) → completion_of playing left ≡ Some e → b ≡ nat_lt x.slot e.1)
      → IsPermutation C (x ∷ C') → x.slot ≤ 255 → Next playing left C C' (Some (Released j, at))
  is_released playing C' j at num slot h tells took day =
      subst (λ (t : ℕ). Next playing left C C' (Some (Released j, t))) slot (x, num, refl, before playing h tells, later C x x.slot front (omega arith), took, day)

  pub is_done : (playing : Option Playing) → b ≡ false → (completion_of playing left ≡ None → ⊥) → ((e : Event × ℕ) → completion_of playing left ≡ Some e → b ≡ nat_lt x.slot e.1) → Next playing left C C (completion_of playing left)
  is_done None h plays tells = absurd (plays refl)
  is_done (Some p) h plays tells = (refl, refl, later C x _ front (ltb-false x.slot _ (sym (tells _ refl) ∙ h)), refl)
