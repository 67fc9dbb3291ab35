-- The order of `Ordered` is an order, and the one that its keys have. Assumes nothing.
use Rattle.std.specs.Prelude.{◌≡◌, Bool, true, false, cond, refl}
use Rattle.std.proofs.Common.{sym, ap, ◌∙◌, true≢false, Ordering, Less, Equal, Greater}
use Rattle.std.specs.Cmp.{IsTotalOrder}
use Rattle.std.specs.Ordering.{is_lt, is_gt, ordering_reverse}
use Rattle.std.proofs.lemmas.Cmp.{on_total}
use Rattle.heap.specs.Trees.{below, by_key}
use Rattle.heap.specs.Keys.{order_cmp, ordered_cmp}
use Rattle.heap.specs.declared.ordered.Ordered.{Ordered}

-- the answer of `cmp` at a and b, where p tests whether a is before b, and q whether b is before a
abbrev answer : Bool → Bool → Ordering
answer p q = cond p Less (cond q Greater Equal)

-- what an answer says of the tests
is_less : (p q : Bool) → is_lt (answer p q) ≡ p
is_less true q = refl
is_less false true = refl
is_less false false = refl

less : (p q : Bool) → answer p q ≡ Less → p ≡ true
less p q e = sym (is_less p q) ∙ ap is_lt e

equal : (p q : Bool) → answer p q ≡ Equal → (p ≡ false) × (q ≡ false)
equal true q e = absurd (true≢false (ap is_lt e))
equal false true e = absurd (true≢false (ap is_gt e))
equal false false e = (refl, refl)

-- the answer the other way round
turned : (p q : Bool) → (p ≡ true → q ≡ false) → answer p q ≡ ordering_reverse (answer q p)
turned true true h = absurd (true≢false (h refl))
turned true false h = refl
turned false true h = refl
turned false false h = refl

-- two tests of which each is false where the other is
alike : (p q : Bool) → (q ≡ false → p ≡ false) → (p ≡ false → q ≡ false) → p ≡ q
alike true q h k = at q h
  where
    at : (q : Bool) → (q ≡ false → true ≡ false) → true ≡ q
    at true h = refl
    at false h = h refl
alike false q h k = sym (k refl)

-- a test that is not false
unless : (p : Bool) → (p ≡ false → ⊥) → p ≡ true
unless true h = refl
unless false h = absurd (h refl)

module _ {K : Type 0} (before : K → K → Bool) where
  -- what is less is what comes before
  pub ordered_below : (x y : Ordered K) → below (ordered_cmp before) x y ≡ before x.0 y.0
  ordered_below x y = is_less (before x.0 y.0) (before y.0 x.0)

  -- entries that wait by `Ordered` wait by the order of their keys
  pub ordered_by_key : {X : Type 0} (keyed : X → Ordered K) → by_key (below (ordered_cmp before)) keyed ≡ by_key before (λ x. (keyed x).0)
  ordered_by_key keyed = λ i x y. ordered_below (keyed x) (keyed y) i

module _ {K : Type 0} {before : K → K → Bool} where
  -- `cmp` is a total order, by two laws
  pub ordered_total : ((a b : K) → before a b ≡ true → before b a ≡ false)
      → ((a b c : K) → before b a ≡ false → before c b ≡ false → before c a ≡ false)
      → IsTotalOrder (ordered_cmp before)
  ordered_total asymmetric chains = on_total (λ (x : Ordered K). x.0) (record { antisymm = antisymm; trans = trans; congr = congr })
    where
      antisymm : (a b : K) → order_cmp before a b ≡ ordering_reverse (order_cmp before b a)
      antisymm a b = turned (before a b) (before b a) (asymmetric a b)

      passes : (a b c : K) → before a b ≡ true → before b c ≡ true → before a c ≡ true
      passes a b c h k = unless (before a c) (λ n. true≢false (sym h ∙ chains b c a (asymmetric b c k) n))

      trans : (a b c : K) → order_cmp before a b ≡ Less → order_cmp before b c ≡ Less → order_cmp before a c ≡ Less
      trans a b c h k = ap (λ p. answer p (before c a)) (passes a b c (less (before a b) (before b a) h) (less (before b c) (before c b) k))

      congr : (a b c : K) → order_cmp before a b ≡ Equal → order_cmp before a c ≡ order_cmp before b c
      congr a b c e =
          let (h, k) = equal (before a b) (before b a) e in
          λ i. answer (alike (before a c) (before b c) (λ n. chains c b a n h) (λ n. chains c a b n k) i) (alike (before c a) (before c b) (chains a b c k) (chains b a c h) i)

  -- different keys never tie, where `before` tells them apart
  pub ordered_apart : ((a b : K) → before a b ≡ false → before b a ≡ false → a ≡ b) → (x y : Ordered K) → ordered_cmp before x y ≡ Equal → x ≡ y
  ordered_apart apart x y e = let (h, k) = equal (before x.0 y.0) (before y.0 x.0) e in λ i. record { 0 = apart x.0 y.0 h k i }
