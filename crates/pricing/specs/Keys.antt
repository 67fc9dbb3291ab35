-- The orders of the two waiting lines. Assumes nothing.
use Rattle.std.specs.Prelude.{◌*◌, Bool, not, ◌&&◌, ◌||◌, ltb, nat_lt}
use Rattle.std.specs.declared.cmp.Ordering.{Ordering}
use Rattle.std.specs.Ordering.{nat_cmp, bool_cmp, on, then_cmp, flip_args}
use Rattle.pricing.specs.declared.keys.Release.{Release}
use Rattle.pricing.specs.declared.keys.Rank.{Rank}

-- x is before y by a, or by b where a does not tell
abbrev pub lex : {X : Type 0} → (X → X → Bool) → (X → X → Bool) → X → X → Bool
lex a b x y = a x y || (not (a y x) && b x y)

abbrev pub earlier : Release → Release → Bool
earlier x y = nat_lt x.slot y.slot

-- the earlier slot first, then the lower number
abbrev pub sooner : Release → Release → Bool
sooner = lex earlier (λ x y. ltb x.number y.number)

abbrev pub marked : Rank → Rank → Bool
marked x y = x.pinned && not y.pinned

-- w / p of x is greater, by products
abbrev pub denser : Rank → Rank → Bool
denser x y = nat_lt (y.weight * x.length) (x.weight * y.length)

abbrev pub lower : Rank → Rank → Bool
lower x y = nat_lt x.number y.number

abbrev pub shorter : Rank → Rank → Bool
shorter x y = nat_lt x.length y.length

-- the pinned first, then the greater w / p, then the lower number, then the lower p
abbrev pub higher : Rank → Rank → Bool
higher = lex marked (lex denser (lex lower shorter))

-- the same orders, as `cmp` answers them
abbrev pub density_cmp : Rank → Rank → Ordering
density_cmp x y = nat_cmp (y.weight * x.length) (x.weight * y.length)

abbrev pub rank_cmp : Rank → Rank → Ordering
rank_cmp = then_cmp (flip_args (on (λ x. x.pinned) bool_cmp)) (then_cmp density_cmp (then_cmp (on (λ x. x.number) nat_cmp) (on (λ x. x.length) nat_cmp)))

abbrev pub release_cmp : Release → Release → Ordering
release_cmp = then_cmp (on (λ x. x.slot) nat_cmp) (on (λ x. x.number) nat_cmp)
