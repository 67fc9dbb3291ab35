-- Rows that are walked start by start, and what a walk has done so far. Assumes nothing.
use Rattle.std.proofs.Common.{◌≡◌, ℕ, ◌+◌, ◌<◌, ◌≤◌, true, false, not, ◌&&◌, ◌||◌, eqb, ltb, leb, ap, ◌∙◌, ⊎_elim, arith}
use mathlib.Core.Path.{fun_ext}
use Rattle.std.proofs.lemmas.Bool.{cases_eq}
use Rattle.std.proofs.lemmas.Bool.Decides.{nat_tests}
use Rattle.stores.specs.Sets.{Rows, Bounded, without, with}
use Rattle.planner.specs.Sets.{union, without_row, range_of, Out}

-- ---- filling

-- the starts of a row from `first` on, before `next`
abbrev pub filled : ℕ → ℕ → ℕ → Rows
filled row first next i t = eqb i row && (leb first t && ltb t next)

pub filled_more : (R Q N : Rows) (row first next : ℕ) → row < 24 → next < 256 → first ≤ next → Q ≡ union R (filled row first next) → N ≡ with Q row next → N ≡ union R (filled row first (next + 1))
unfolding with
filled_more R Q N row first next l m le q n = n ∙ fun_ext (λ i. fun_ext (λ t.
    let was : Q i t ≡ union R (filled row first next) i t = ap (λ (T : Rows). T i t) q in
    ⊎_elim (λ (at : t ≡ next). grind (arith, nat_tests)) (λ (at : t ≡ next → ⊥). grind (arith, nat_tests)) (cases_eq t next)))

pub filled_all : (R : Rows) (row first last : ℕ) → union R (filled row first (last + 1)) ≡ union R (range_of row first last)
filled_all R row first last = fun_ext (λ i. fun_ext (λ t. grind (arith, nat_tests)))

-- the rows below n are those of P, the others those of R
abbrev pub mixed : Rows → Rows → ℕ → Rows
mixed P R n i t = (ltb i n && P i t) || (not (ltb i n) && R i t)

-- the next row is emptied, and filled as in P
pub mixed_more :
    (P R Q N K : Rows) (row : ℕ) → Q ≡ mixed P R row → N ≡ without_row Q row → ((i t : ℕ) → K i t ≡ (N i t || (eqb i row && P row t))) →
    K ≡ mixed P R (row + 1)
mixed_more P R Q N K row q n k = fun_ext (λ i. fun_ext (λ t.
    let was : Q i t ≡ mixed P R row i t = ap (λ (T : Rows). T i t) q in
    let then : N i t ≡ without_row Q row i t = ap (λ (T : Rows). T i t) n in
    let now_is : K i t ≡ (N i t || (eqb i row && P row t)) = k i t in
    ⊎_elim
    (λ (same : i ≡ row). let row_is : P i t ≡ P row t = ap (λ j. P j t) same in grind (arith, nat_tests))
    (λ (other : i ≡ row → ⊥). grind (arith, nat_tests))
    (cases_eq i row)))

-- ---- what goes from one set into another

pub out_none : (R G : Rows) → Out R G R G
out_none R G = record { less = λ i t on. on; gone = λ i t. grind (arith, nat_tests) }

pub out_cut : (R G R' G' : Rows) (row v : ℕ) → Bounded R → R row v ≡ true → R' ≡ without R row v → G' ≡ with G row v → Out R G R' G'
unfolding without with
out_cut R G R' G' row v b on r g =
    let (in_row, in_start) = b row v on in
    record {
      less = λ i t h. let is : R' i t ≡ without R row v i t = ap (λ (T : Rows). T i t) r in grind (arith, nat_tests);
      gone = λ i t.
          let is : R' i t ≡ without R row v i t = ap (λ (T : Rows). T i t) r in
          let came : G' i t ≡ with G row v i t = ap (λ (T : Rows). T i t) g in
          ⊎_elim
          (λ (same : i ≡ row).
          ⊎_elim
          (λ (at : t ≡ v). let held : R i t ≡ true = ap (λ j. R j t) same ∙ ap (R row) at ∙ on in grind (arith, nat_tests))
          (λ (at : t ≡ v → ⊥). grind (arith, nat_tests))
          (cases_eq t v))
          (λ (other : i ≡ row → ⊥). grind (arith, nat_tests))
          (cases_eq i row);
    }

pub out_trans : (R G Q H N K : Rows) → Out R G Q H → Out Q H N K → Out R G N K
out_trans R G Q H N K f g = record {
  less = λ i t on. f.less i t (g.less i t on);
  gone = λ i t. let a = f.gone i t in let b = g.gone i t in grind (arith, nat_tests, f.less i t, g.less i t);
}

-- what went out of R into an empty set, put back, gives R
pub out_back : (R G Q H : Rows) → ((i t : ℕ) → G i t ≡ false) → Out R G Q H → union Q H ≡ R
out_back R G Q H none f = fun_ext (λ i. fun_ext (λ t. let a = none i t in let b = f.gone i t in grind (arith, nat_tests, f.less i t)))

-- and is what R has and Q has not
pub out_gone : (R G Q H : Rows) → ((i t : ℕ) → G i t ≡ false) → Out R G Q H → (i t : ℕ) → H i t ≡ (R i t && not (Q i t))
out_gone R G Q H none f i t = let a = none i t in let b = f.gone i t in grind (arith, nat_tests)
