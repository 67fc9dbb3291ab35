-- The orders of the two waiting lines are orders, and are those of `cmp`. Assumes nothing.
use Rattle.std.specs.Prelude.{◌≡◌, ℕ, ◌*◌, ◌<◌, ◌≤◌, Bool, true, false, not, ◌&&◌, ◌||◌, ◌==◌, ltb, nat_lt, refl}
use Rattle.std.proofs.Common.{sym, ap, ap₂, ◌∙◌, cond, subst, Ordering, Less, Equal, Greater, mul_right_comm, true≢false, ltb-false}
use Rattle.std.proofs.Math.Bool.{beq}
use Rattle.std.proofs.lemmas.Bool.{eqb-true}
use Rattle.std.proofs.lemmas.Bool.Decides.{same_from_decides}
use Rattle.std.specs.Cmp.{IsTotalOrder, Equal-is, bool_cmp_total, booleans_Decides, nat_cmp_is, ranks}
use Rattle.std.specs.Ordering.{MatchOrdering, is_lt, is_gt, is_eq, ordering_reverse, ordering_then, nat_cmp, bool_cmp, on, then_cmp, flip_args}
use Rattle.std.proofs.lemmas.Cmp.{ranked, nat_cmp_total, on_total, then_total, back_total, tied_itself, alike_right}
use Rattle.std.proofs.Math.Nat.{eq_of_mul-eq-mul_right, mul-lt-mul_of_pos_right}
use mathlib.Core.HLevel.{is_prop→PathP}
use Rattle.std.proofs.Math.Bridge.{le_prop}
use Rattle.heap.specs.Trees.{below}
use Rattle.heap.proofs.Orders.{asymmetric, chains, apart}
use Rattle.pricing.specs.declared.keys.Release.{Release}
use Rattle.pricing.specs.declared.keys.Rank.{Rank}
use Rattle.pricing.specs.contracts.keys.RankEq.TheImpl.Laws.{laws-law}
use Rattle.pricing.specs.Keys.{lex, earlier, sooner, denser, lower, shorter, higher, release_cmp, density_cmp, rank_cmp}

abbrev rank_equal : Rank → Rank → Bool
rank_equal x y = beq x.pinned y.pinned && ((x.weight == y.weight) && ((x.length == y.length) && (x.number == y.number)))

-- an order made of two others
pub then_lex : {X : Type 0} (R S : X → X → Ordering) → IsTotalOrder R → (x y : X) → below (then_cmp R S) x y ≡ lex (below R) (below S) x y
then_lex R S total x y = at (R x y) (R y x) (S x y) (total.antisymm y x)
  where
    at : (r t s : Ordering) → t ≡ ordering_reverse r → is_lt (ordering_then r s) ≡ is_lt r || (not (is_lt t) && is_lt s)
    at Less t s e = refl
    at Equal t s e = ap (λ o. not (is_lt o) && is_lt s) (sym e)
    at Greater t s e = ap (λ o. not (is_lt o) && is_lt s) (sym e)

pub lex_first : {X : Type 0} (a b : X → X → Bool) (x y : X) → lex a b x y ≡ false → a x y ≡ false
lex_first a b x y = at (a x y) (not (a y x) && b x y)
  where
    at : (p q : Bool) → (p || q) ≡ false → p ≡ false
    at true q h = h
    at false q h = refl

-- numbers
lesser : (a b : ℕ) → below nat_cmp a b ≡ nat_lt a b
lesser a b = at (nat_lt a b) (a == b)
  where
    at : (p q : Bool) → is_lt (cond p Less (cond q Equal Greater)) ≡ p
    at true q = refl
    at false true = refl
    at false false = refl

-- releases
pub release_total : IsTotalOrder release_cmp
release_total = then_total (on_total (λ (x : Release). x.slot) nat_cmp_total) (on_total (λ (x : Release). x.number) nat_cmp_total)

pub sooner_is : below release_cmp ≡ sooner
sooner_is = λ i x y. (then_lex (on (λ (x : Release). x.slot) nat_cmp) (on (λ (x : Release). x.number) nat_cmp) (on_total (λ (x : Release). x.slot) nat_cmp_total) x y
    ∙ (λ j. lex (λ x y. lesser x.slot y.slot j) (λ x y. lesser x.number y.number j) x y)) i

-- ranks: a / p and b / q by products
scaled : (a b k : ℕ) → 1 ≤ k → nat_cmp a b ≡ nat_cmp (a * k) (b * k)
scaled a b k some = nat_cmp_is (a * k) (b * k) (nat_cmp a b) (at (nat_cmp a b) (ranks a b))
  where
    at : (r : Ordering) → MatchOrdering r (a < b) (a ≡ b) (b < a) → MatchOrdering r (a * k < b * k) (a * k ≡ b * k) (b * k < a * k)
    at Less h = mul-lt-mul_of_pos_right h some
    at Equal h = ap (λ n. n * k) h
    at Greater h = mul-lt-mul_of_pos_right h some

-- three ranks over one denominator
abbrev weighed : Rank → Rank → Rank → ℕ
weighed x y z = x.weight * y.length * z.length

over_all : (x y z : Rank) → density_cmp x y ≡ nat_cmp (weighed y x z) (weighed x y z)
over_all x y z = scaled (y.weight * x.length) (x.weight * y.length) z.length z.plays

swapped : (x y z : Rank) → weighed x y z ≡ weighed x z y
swapped x y z = mul_right_comm x.weight y.length z.length

pub density_total : IsTotalOrder density_cmp
density_total = record {
  antisymm = λ x y. nat_cmp_total.antisymm (y.weight * x.length) (x.weight * y.length);
  trans = λ x y z h k.
      over_all x z y ∙ nat_cmp_total.trans (weighed z x y) (weighed y x z) (weighed x z y)
      (ap₂ nat_cmp (swapped z x y) (swapped y x z) ∙ sym (over_all y z x) ∙ k)
      (ap (nat_cmp (weighed y x z)) (swapped x z y) ∙ sym (over_all x y z) ∙ h);
  congr = λ x y z h.
      over_all x z y ∙ ap₂ nat_cmp (swapped z x y) (swapped x z y)
      ∙ sym (alike_right nat_cmp_total (weighed y x z) (weighed x y z) (weighed z y x) (sym (over_all x y z) ∙ h))
      ∙ ap (nat_cmp (weighed z y x)) (swapped y x z) ∙ sym (over_all y z x);
}

pub rank_total : IsTotalOrder rank_cmp
rank_total = then_total (back_total (on_total (λ (x : Rank). x.pinned) bool_cmp_total))
    (then_total density_total (then_total (on_total (λ (x : Rank). x.number) nat_cmp_total) (on_total (λ (x : Rank). x.length) nat_cmp_total)))

marked_is : (p q : Bool) → is_lt (bool_cmp q p) ≡ (p && not q)
marked_is true true = refl
marked_is true false = refl
marked_is false true = refl
marked_is false false = refl

pub higher_is : below rank_cmp ≡ higher
higher_is = λ i x y. (then_lex first (then_cmp density_cmp (then_cmp second third)) (back_total (on_total (λ (x : Rank). x.pinned) bool_cmp_total)) x y
    ∙ (λ j. lex (λ x y. marked_is x.pinned y.pinned j) (λ x y. untold x y j) x y)) i
  where
    first : Rank → Rank → Ordering
    first = flip_args (on (λ x. x.pinned) bool_cmp)

    second : Rank → Rank → Ordering
    second = on (λ x. x.number) nat_cmp

    third : Rank → Rank → Ordering
    third = on (λ x. x.length) nat_cmp

    untold : (x y : Rank) → below (then_cmp density_cmp (then_cmp second third)) x y ≡ lex denser (lex lower shorter) x y
    untold x y = then_lex density_cmp (then_cmp second third) density_total x y
        ∙ (λ j. lex (λ x y. lesser (y.weight * x.length) (x.weight * y.length) j) (λ x y. (then_lex second third (on_total (λ (x : Rank). x.number) nat_cmp_total) x y
        ∙ (λ k. lex (λ x y. lesser x.number y.number k) (λ x y. lesser x.length y.length k) x y)) j) x y)

-- ranks that differ in their proofs alone are the same
pub rank_same : (x y : Rank) → x.pinned ≡ y.pinned → x.weight ≡ y.weight → x.length ≡ y.length → x.number ≡ y.number → x ≡ y
rank_same x y a b c d = λ i. record { pinned = a i; weight = b i; length = c i; number = d i; plays = is_prop→PathP (λ j. 1 ≤ c j) (λ j. le_prop) x.plays y.plays i }

both_level : (r s : Ordering) → ordering_then r s ≡ Equal → (r ≡ Equal) × (s ≡ Equal)
both_level Less s e = absurd (true≢false (ap is_lt e))
both_level Equal s e = (refl, e)
both_level Greater s e = absurd (true≢false (ap is_gt e))

same_number : (a b : ℕ) → nat_cmp a b ≡ Equal → a ≡ b
same_number a b e = ranked a b Equal (sym e)

same_mark : (p q : Bool) → bool_cmp q p ≡ Equal → p ≡ q
same_mark true true e = refl
same_mark true false e = absurd (true≢false (ap is_lt e))
same_mark false true e = absurd (true≢false (ap is_gt e))
same_mark false false e = refl

-- ranks that `cmp` finds equal are the same
pub rank_apart : (x y : Rank) → rank_cmp x y ≡ Equal → x ≡ y
rank_apart x y e =
    let f = both_level (bool_cmp y.pinned x.pinned) _ e in
    let s = both_level (density_cmp x y) _ f.1 in
    let t = both_level (nat_cmp x.number y.number) (nat_cmp x.length y.length) s.1 in
    let long = same_number x.length y.length t.1 in
    let heavy = same_number (y.weight * x.length) (x.weight * y.length) s.0 in
    rank_same x y (same_mark x.pinned y.pinned f.0) (eq_of_mul-eq-mul_right y.length y.plays x.weight y.weight (sym heavy ∙ ap (λ n. y.weight * n) long)) long (same_number x.number y.number t.0)

both_so : (p q : Bool) → (p && q) ≡ true → (p ≡ true) × (q ≡ true)
both_so true q h = (refl, h)
both_so false q h = absurd (true≢false (sym h))

-- `==` finds equal what `cmp` does
pub rank_eq : (x y : Rank) → rank_equal x y ≡ is_eq (rank_cmp x y)
rank_eq x y = same_from_decides (rank_equal x y) (is_eq (rank_cmp x y)) (same, λ e. subst (λ (z : Rank). rank_equal x z ≡ true) e (laws-law.refl x)) (
  λ h. rank_apart x y ((Equal-is (rank_cmp x y)).0 h),
  λ e. ap is_eq (subst (λ (z : Rank). rank_cmp x z ≡ Equal) e (tied_itself rank_total x)),
)
  where
    same : rank_equal x y ≡ true → x ≡ y
    same h =
        let (p, k) = both_so (beq x.pinned y.pinned) ((x.weight == y.weight) && ((x.length == y.length) && (x.number == y.number))) h in
        let (w, l) = both_so (x.weight == y.weight) ((x.length == y.length) && (x.number == y.number)) k in
        let (n, m) = both_so (x.length == y.length) (x.number == y.number) l in
        rank_same x y ((booleans_Decides x.pinned y.pinned).0 p) (eqb-true x.weight y.weight w) (eqb-true x.length y.length n) (eqb-true x.number y.number m)

-- ranks
pub higher_chain : (x y z : Rank) → higher y x ≡ false → higher z y ≡ false → higher z x ≡ false
higher_chain = subst (λ (before : Rank → Rank → Bool). (x y z : Rank) → before y x ≡ false → before z y ≡ false → before z x ≡ false) higher_is (chains rank_cmp rank_total)

pub higher_asym : (x y : Rank) → higher x y ≡ true → higher y x ≡ false
higher_asym = subst (λ (before : Rank → Rank → Bool). (x y : Rank) → before x y ≡ true → before y x ≡ false) higher_is (asymmetric rank_cmp rank_total)

pub higher_irrefl : (x : Rank) → higher x x ≡ false
higher_irrefl x = subst (λ (before : Rank → Rank → Bool). before x x ≡ false) higher_is (ap is_lt (tied_itself rank_total x))

pub higher_apart : (x y : Rank) → higher x y ≡ false → higher y x ≡ false → x ≡ y
higher_apart = subst (λ (before : Rank → Rank → Bool). (x y : Rank) → before x y ≡ false → before y x ≡ false → x ≡ y) higher_is (apart rank_cmp rank_total rank_apart)

-- releases
pub release_apart : (x y : Release) → release_cmp x y ≡ Equal → x ≡ y
release_apart x y e =
    let f = both_level (nat_cmp x.slot y.slot) (nat_cmp x.number y.number) e in
    λ i. record { slot = same_number x.slot y.slot f.0 i; number = same_number x.number y.number f.1 i }

pub sooner_chain : (x y z : Release) → sooner y x ≡ false → sooner z y ≡ false → sooner z x ≡ false
sooner_chain = subst (λ (before : Release → Release → Bool). (x y z : Release) → before y x ≡ false → before z y ≡ false → before z x ≡ false) sooner_is (chains release_cmp release_total)

pub sooner_asym : (x y : Release) → sooner x y ≡ true → sooner y x ≡ false
sooner_asym = subst (λ (before : Release → Release → Bool). (x y : Release) → before x y ≡ true → before y x ≡ false) sooner_is (asymmetric release_cmp release_total)

pub sooner_apart : (x y : Release) → sooner x y ≡ false → sooner y x ≡ false → x ≡ y
sooner_apart = subst (λ (before : Release → Release → Bool). (x y : Release) → before x y ≡ false → before y x ≡ false → x ≡ y) sooner_is (apart release_cmp release_total release_apart)

pub not_sooner : (x y : Release) → sooner y x ≡ false → x.slot ≤ y.slot
not_sooner x y h = ltb-false y.slot x.slot (lex_first earlier (λ x y. ltb x.number y.number) y x h)
