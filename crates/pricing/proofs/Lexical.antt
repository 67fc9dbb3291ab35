-- Laws of tests, of any two and not of those that a `cmp` makes: an order made of two others, marks, and w / p by products. They say more than
-- the orders of the waiting lines need, and stand for whoever orders by tests. Assumes nothing.
use Rattle.std.proofs.Common.{◌≡◌, ℕ, ◌*◌, ◌≤◌, Bool, true, false, not, ◌&&◌, ◌||◌, sym, refl, ◌∙◌, true≢false, arith, mul_right_comm, mul-le-mul_right, le_of_mul-le-mul_right}
use Rattle.pricing.specs.Keys.{lex}

-- an order made of two others
module _ {X : Type 0} (a b : X → X → Bool) where
  -- in the heap's terms: where y is not before x and z is not before y, z is not before x
  abbrev Chain : (X → X → Bool) → Type 0
  Chain lt = (x y z : X) → lt y x ≡ false → lt z y ≡ false → lt z x ≡ false

  abbrev Asymmetric : (X → X → Bool) → Type 0
  Asymmetric lt = (x y : X) → lt x y ≡ true → lt y x ≡ false

  first : (p q : Bool) → (p || q) ≡ false → p ≡ false
  first true q h = h
  first false q h = refl

  second : (p q : Bool) → (p || q) ≡ false → q ≡ false
  second true q h = absurd (true≢false h)
  second false q h = h

  free : (q r : Bool) → q ≡ false → (not q && r) ≡ false → r ≡ false
  free true r e h = absurd (true≢false e)
  free false r e h = h

  -- p, q and r are a z x, a x z and b z x; u and v are a x y and a y z
  joined : (x y z : X) (p q r : Bool) → a z x ≡ p → a x z ≡ q → b z x ≡ r → (u v : Bool) → a x y ≡ u → a y z ≡ v → Chain a → Chain b
      → a y x ≡ false → a z y ≡ false → (not u && b y x) ≡ false → (not v && b z y) ≡ false → (p || (not q && r)) ≡ false
  joined x y z true q r ep eq er u v eu ev ca cb h k l m = sym ep ∙ ca x y z h k
  joined x y z false true r ep eq er u v eu ev ca cb h k l m = refl
  joined x y z false false r ep eq er true v eu ev ca cb h k l m = absurd (true≢false (sym eu ∙ ca y z x k eq))
  joined x y z false false r ep eq er false true eu ev ca cb h k l m = absurd (true≢false (sym ev ∙ ca z x y eq h))
  joined x y z false false r ep eq er false false eu ev ca cb h k l m = sym er ∙ cb x y z l m

  pub lex_chain : Chain a → Chain b → Chain (lex a b)
  lex_chain ca cb x y z h k = joined x y z _ _ _ refl refl refl _ _ refl refl ca cb (first _ _ h) (first _ _ k) (second _ _ h) (second _ _ k)

  -- what neither tells apart
  pub lex_tied : (x y : X) → lex a b x y ≡ false → lex a b y x ≡ false → (a x y ≡ false) × (a y x ≡ false) × (b x y ≡ false) × (b y x ≡ false)
  lex_tied x y h k =
      let p : a x y ≡ false = first (a x y) (not (a y x) && b x y) h in
      let q : a y x ≡ false = first (a y x) (not (a x y) && b y x) k in
      (p, q, free (a y x) (b x y) q (second (a x y) (not (a y x) && b x y) h), free (a x y) (b y x) p (second (a y x) (not (a x y) && b y x) k))

  turned : (p q r s : Bool) → (p ≡ true → q ≡ false) → (r ≡ true → s ≡ false) → (p || (not q && r)) ≡ true → (q || (not p && s)) ≡ false
  turned true false r s f g h = refl
  turned true true r s f g h = absurd (true≢false (f refl))
  turned false true r s f g h = absurd (true≢false (sym h))
  turned false false true s f g h = g refl
  turned false false false s f g h = absurd (true≢false (sym h))

  pub lex_asym : Asymmetric a → Asymmetric b → Asymmetric (lex a b)
  lex_asym f g x y h = turned (a x y) (a y x) (b x y) (b y x) (f x y) (g x y) h

-- marks
pub pins : (x y z : Bool) → (y && not x) ≡ false → (z && not y) ≡ false → (z && not x) ≡ false
pins x y false h k = refl
pins x true true h k = h
pins x false true h k = absurd (true≢false k)

pub same_pin : (x y : Bool) → (x && not y) ≡ false → (y && not x) ≡ false → x ≡ y
same_pin false false h k = refl
same_pin false true h k = absurd (true≢false k)
same_pin true false h k = absurd (true≢false h)
same_pin true true h k = refl

pub one_pin : (x y : Bool) → (x && not y) ≡ true → (y && not x) ≡ false
one_pin false y h = absurd (true≢false (sym h))
one_pin true true h = absurd (true≢false (sym h))
one_pin true false h = refl

-- a / p ≤ b / q and b / q ≤ c / r, by products
pub cross : (a p b q c r : ℕ) → 1 ≤ q → a * q ≤ b * p → b * r ≤ c * q → a * r ≤ c * p
cross a p b q c r z h k =
    let u : a * q * r ≤ b * p * r = mul-le-mul_right r h in
    let v : b * r * p ≤ c * q * p = mul-le-mul_right p k in
    le_of_mul-le-mul_right {k = q} (omega (arith, u, v, mul_right_comm a q r, mul_right_comm b p r, mul_right_comm c q p)) z
