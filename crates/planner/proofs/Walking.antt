-- Walking the starts of a store, from place to place. Assumes nothing.
use Rattle.std.proofs.Common.{◌≡◌, ℕ, ◌+◌, ◌*◌, ◌<◌, ◌≤◌, true, false, ◌&&◌, ltb, ap, ◌∙◌, ⊎_elim, arith}
use mathlib.Core.Path.{fun_ext}
use Rattle.std.proofs.lemmas.Bool.{cases_Bool, cases_eq, cases_lt, both_ways}
use Rattle.std.proofs.lemmas.Bool.Decides.{nat_tests}
use Rattle.stores.specs.Sets.{Rows, Bounded, with}
use Rattle.planner.specs.Sets.{union}
use Rattle.planner.specs.Starts.{FirstAt}

-- ---- the next start

-- R has no start from the place `from` on and before the place of `next` in the row
pub record Passed (R : Rows) (from row next : ℕ) : Type 0 where
  pub within : next ≤ 256
  pub reached : from ≤ 256 * row + next
  pub later : (i t : ℕ) → R i t ≡ true → from ≤ 256 * i + t → 256 * row + next ≤ 256 * i + t

-- ---- what was walked so far

-- the starts of R before a place
abbrev pub before : Rows → ℕ → Rows
before R n i t = ltb (256 * i + t) n && R i t

pub before_none : (R : Rows) (i t : ℕ) → before R 0 i t ≡ false
before_none R i t = grind (arith, nat_tests)

pub before_more : (R : Rows) (from to i t : ℕ) → Bounded R → FirstAt R from to i t → before R to ≡ with (before R from) i t
unfolding with
before_more R from to i t b first = fun_ext (λ j. fun_ext (λ u.
    let (in_row, in_start) = b i t first.held in
    let at = first.reached in
    let passed = first.passed in
    ⊎_elim
    (λ (held : R j u ≡ true).
    let (_, l) = b j u held in
    ⊎_elim
    (λ (m : 256 * j + u < from). grind (arith, nat_tests))
    (λ (m : from ≤ 256 * j + u).
    let gap = first.gap j u held m in
    ⊎_elim
    (λ (same : j ≡ i).
    ⊎_elim
    (λ (is : u ≡ t). grind (arith, nat_tests))
    (λ (is : u ≡ t → ⊥). let on : 256 * i + t < 256 * j + u = omega (arith, is) in grind (arith, nat_tests))
    (cases_eq u t))
    (λ (other : j ≡ i → ⊥). let on : 256 * i + t < 256 * j + u = omega (arith, other) in grind (arith, nat_tests))
    (cases_eq j i))
    (cases_lt (256 * j + u) from))
    (λ (off : R j u ≡ false).
    ⊎_elim
    (λ (same : j ≡ i).
    ⊎_elim
    (λ (is : u ≡ t). absurd (both_ways (R j u) off (ap (λ k. R k u) same ∙ ap (R i) is ∙ first.held)))
    (λ (is : u ≡ t → ⊥). grind (arith, nat_tests))
    (cases_eq u t))
    (λ (other : j ≡ i → ⊥). grind (arith, nat_tests))
    (cases_eq j i))
    (cases_Bool (R j u))))

pub before_all : (R : Rows) (from : ℕ) → ((i t : ℕ) → from ≤ 256 * i + t → R i t ≡ false) → before R from ≡ R
before_all R from none = fun_ext (λ i. fun_ext (λ t.
    ⊎_elim
    (λ (l : 256 * i + t < from). grind (arith, nat_tests))
    (λ (l : from ≤ 256 * i + t). let off = none i t l in grind (arith, nat_tests))
    (cases_lt (256 * i + t) from)))

-- one start more is poured in
pub poured_more : (R G Q N : Rows) (from to i t : ℕ) → Bounded G → FirstAt G from to i t → Q ≡ union R (before G from) → N ≡ with Q i t → N ≡ union R (before G to)
unfolding with
poured_more R G Q N from to i t b first q n =
    n ∙ ap (λ (T : Rows). with T i t) q
    ∙ fun_ext (λ j. fun_ext (λ u. let is : before G to j u ≡ with (before G from) i t j u = ap (λ (T : Rows). T j u) (before_more G from to i t b first) in grind (arith, nat_tests)))
