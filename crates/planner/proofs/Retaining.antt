-- A row that is walked, and loses what is not kept. Assumes nothing.
use Rattle.std.proofs.Common.{◌≡◌, ℕ, ◌+◌, ◌<◌, ◌≤◌, Bool, true, false, eqb, ◌⊎◌, sym, ap, ◌∙◌, subst, inl, inr, ⊎_elim, arith}
use mathlib.Core.Path.{fun_ext}
use Rattle.std.proofs.lemmas.Bool.{cases_Bool, cases_eq, cases_lt, both_ways}
use Rattle.std.proofs.lemmas.Bool.Decides.{nat_tests}
use Rattle.stores.specs.Sets.{Rows, Bounded, without, Earliest}
use Rattle.stores.proofs.Moves.{without_held, without_other, without_named}
use Rattle.stores.proofs.Firsts.{earliest_least}
use Rattle.runs.specs.Tables.{Within}
use Rattle.runs.specs.Orders.{fixed}
use Rattle.planner.specs.Cuttings.{Retained}

module _ (keep : ℕ → Bool → Type 0) (row : ℕ) where
  -- the row of R was walked up to `next`, and Q is left
  pub record Walked (R Q : Rows) (next : ℕ) : Type 0 where
    pub less : Within Q R
    pub others : (i t : ℕ) → (i ≡ row → ⊥) → Q i t ≡ R i t
    pub kept : (t : ℕ) → t < next → Q row t ≡ true → keep t true
    pub cut : (t : ℕ) → R row t ≡ true → Q row t ≡ false → keep t false

  -- a start of the row that comes before v + 1 is v, or comes before `next`
  earlier : (f : ℕ → Bool) (next v t : ℕ) → Earliest f next v → t < v + 1 → f t ≡ true → (t ≡ v) ⊎ (t < next)
  earlier f next v t e l on =
      ⊎_elim (λ (m : t < next). inr m) (λ (m : next ≤ t). inl (let le = earliest_least f next v t e m on in omega arith)) (cases_lt t next)

  pub walked_stay : (R Q : Rows) (next v : ℕ) → Earliest (Q row) next v → keep v true → Walked R Q next → Walked R Q (v + 1)
  walked_stay R Q next v e stays so_far = record {
    less = so_far.less;
    others = so_far.others;
    kept = λ t l on.
        ⊎_elim
        (λ (at : t ≡ v). subst (λ u. keep u true) (sym at) stays)
        (λ (m : t < next). so_far.kept t m on)
        (earlier (Q row) next v t e l on);
    cut = so_far.cut;
  }

  pub walked_cut : (R Q N : Rows) (next v : ℕ) → Earliest (Q row) next v → keep v false → N ≡ without Q row v → Walked R Q next → Walked R N (v + 1)
  walked_cut R Q N next v e goes n so_far = record {
    less = λ i t on. so_far.less i t (back i t on);
    others = λ i t other. ap (λ (T : Rows). T i t) n ∙ without_other Q row v i t (λ same _. other same) ∙ so_far.others i t other;
    kept = λ t l on.
        ⊎_elim
        (λ (at : t ≡ v). absurd (both_ways (N row t) (ap (N row) at ∙ ap (λ (T : Rows). T row v) n ∙ without_named Q row v) on))
        (λ (m : t < next). so_far.kept t m (back row t on))
        (earlier (Q row) next v t e l (back row t on));
    cut = λ t on off.
        ⊎_elim
        (λ (at : t ≡ v). subst (λ u. keep u false) (sym at) goes)
        (λ (at : t ≡ v → ⊥). so_far.cut t on (sym (without_other Q row v row t (λ _ same. at same)) ∙ ap (λ (T : Rows). T row t) (sym n) ∙ off))
        (cases_eq t v);
  }
    where
      back : (i t : ℕ) → N i t ≡ true → Q i t ≡ true
      back i t on = without_held Q row v i t (ap (λ (T : Rows). T i t) (sym n) ∙ on)

-- what the answers to `keep` say of a start in range
pub retained_as :
    (keep says : ℕ → Bool → Type 0) (row : ℕ) (R Q : Rows) → Bounded R → ((t : ℕ) (b : Bool) → t < 256 → keep t b → says t b) → Retained keep row R Q →
    Retained says row R Q
retained_as keep says row R Q b tells f = record {
  less = f.less;
  others = f.others;
  kept = λ t on. tells t true (b row t (f.less row t on)).1 (f.kept t on);
  cut = λ t on off. tells t false (b row t on).1 (f.cut t on off);
}

-- one is kept
pub retained_fixed : (R Q : Rows) (row stay : ℕ) → Retained (λ t b. b ≡ eqb t stay) row R Q → Q ≡ fixed R row stay
unfolding fixed
retained_fixed R Q row stay f = fun_ext (λ i. fun_ext (λ t.
    ⊎_elim
    (λ (same : i ≡ row).
    let row_is : Q i t ≡ Q row t = ap (λ j. Q j t) same in
    let row_was : R i t ≡ R row t = ap (λ j. R j t) same in
    ⊎_elim
    (λ (on : Q row t ≡ true). let was = f.less row t on in let kept = f.kept t on in grind (arith, nat_tests))
    (λ (off : Q row t ≡ false).
    ⊎_elim
    (λ (was : R row t ≡ true). let gone = f.cut t was off in grind (arith, nat_tests))
    (λ (was : R row t ≡ false). grind (arith, nat_tests))
    (cases_Bool (R row t)))
    (cases_Bool (Q row t)))
    (λ (other : i ≡ row → ⊥). let is = f.others i t other in grind (arith, nat_tests))
    (cases_eq i row)))
