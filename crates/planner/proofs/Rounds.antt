-- Cutting what releases do not support, start by start, row by row and round by round. Assumes nothing.
use Rattle.std.proofs.Common.{◌≡◌, ℕ, ◌+◌, ◌<◌, ◌≤◌, Bool, true, false, ◌||◌, Some, None, Option, sym, refl, ap, ◌∙◌, subst, ⊎_elim, arith}
use Rattle.std.specs.Option.{is_some}
use Rattle.std.proofs.Math.Bool.{or-true, or-false}
use Rattle.std.proofs.lemmas.Bool.{cases_Bool, cases_eq, both_ways}
use Rattle.stores.specs.Sets.{Rows, Bounded, without, Earliest}
use Rattle.stores.proofs.Moves.{without_other}
use Rattle.stores.proofs.Firsts.{earliest_least}
use Rattle.runs.specs.Tables.{Setting, Within, Releases, starts, NoneWithin, Narrowed, Largest}
use Rattle.runs.proofs.Tables.{Early, Laws, releases_early, within_early}
use Rattle.runs.proofs.Starts.{starts_within, starts_without}
use Rattle.runs.proofs.Pruning.{narrowed_trans, narrowed_less, narrowed_empty, narrowed_largest}
use Rattle.planner.specs.Sets.{Out}
use Rattle.planner.specs.Trims.{RowTrim, LeastStart, Trim, RoundDone, Settled}
use Rattle.planner.proofs.Walks.{out_trans}

-- ---- a round

module _ (w : Setting) (ok : Laws w) (U : ℕ) where
  pub trim_trans : (R G Q H N K : Rows) → Trim w U R G Q H → Trim w U Q H N K → Trim w U R G N K
  trim_trans R G Q H N K f g = record {
    out = out_trans R G Q H N K f.out g.out;
    past = λ i t l. g.past i t l ∙ f.past i t l;
    narrowed = narrowed_trans w U R Q N f.narrowed g.narrowed;
  }

  row_trim : (R G Q H : Rows) (r : ℕ → ℕ) (row : ℕ) → row < w.tickets → Early w R r → RowTrim w U r row R Q → Out R G Q H → Trim w U R G Q H
  row_trim R G Q H r row l early f out = record {
    out = out;
    past = λ i t m. f.others i t (λ e. omega arith);
    narrowed = narrowed_less w ok U R Q r early f.less gone;
  }
    where
      gone : (i t : ℕ) → R i t ≡ true → Q i t ≡ false → (i < w.tickets) × (w.supports r i t U → ⊥)
      gone i t on off =
          ⊎_elim
          (λ (same : i ≡ row). (
            omega arith,
            λ sup. f.cut t (ap (λ j. R j t) (sym same) ∙ on) (ap (λ j. Q j t) (sym same) ∙ off) (subst (λ j. w.supports r j t U) same sup),
          ))
          (λ (other : i ≡ row → ⊥). absurd (both_ways (R i t) (sym (f.others i t other) ∙ off) on))
          (cases_eq i row)

  -- one start fewer at least
  starts_less : (R Q : Rows) (i t : ℕ) → Bounded R → i < w.tickets → R i t ≡ true → Q i t ≡ false → Within Q R → starts w Q < starts w R
  starts_less R Q i t b l on off less = omega (arith, starts_within w Q (without R i t) inside, starts_without w R i t b l on)
    where
      inside : Within Q (without R i t)
      inside j u held =
          without_other R i t j u (λ a z. both_ways (Q i t) off (ap (λ k. Q k t) (sym a) ∙ ap (Q j) (sym z) ∙ held)) ∙ less j u held

  -- the rows below `row` were trimmed by the releases r, which R has, and the others not yet; whether a least start moved
  pub record Round (r : ℕ → ℕ) (R G Q H : Rows) (row : ℕ) (moved : Bool) : Type 0 where
    pub trim : Trim w U R G Q H
    pub untouched : (i t : ℕ) → row ≤ i → Q i t ≡ R i t
    pub still : moved ≡ false → (i : ℕ) → i < row → Earliest (Q i) 0 (r i)
    pub supported : (i t : ℕ) → i < row → Q i t ≡ true → w.supports r i t U
    pub shifted : moved ≡ true → (i : ℕ) × (i < w.tickets) × (Q i (r i) ≡ false)

  -- the next row is trimmed
  module _ (r : ℕ → ℕ) (R G Q H N K : Rows) (row : ℕ) (moved : Bool) (l : row < w.tickets) (rel : Releases w R r) where
    early_now : Trim w U R G Q H → Early w Q r
    early_now so_far = within_early w so_far.narrowed.within (releases_early w rel)

    both : Round r R G Q H row moved → RowTrim w U r row Q N → Out Q H N K → Trim w U R G N K
    both so_far f out = trim_trans R G Q H N K so_far.trim (row_trim Q H N K r row l (early_now so_far.trim) f out)

    next_supported : Round r R G Q H row moved → RowTrim w U r row Q N → (i t : ℕ) → i < row + 1 → N i t ≡ true → w.supports r i t U
    next_supported so_far f i t m on =
        ⊎_elim
        (λ (same : i ≡ row). subst (λ j. w.supports r j t U) (sym same) (f.kept t (ap (λ j. N j t) (sym same) ∙ on)))
        (λ (other : i ≡ row → ⊥). so_far.supported i t (omega (arith, other)) (f.less i t on))
        (cases_eq i row)

    pub round_kept : Round r R G Q H row moved → RowTrim w U r row Q N → Out Q H N K → Earliest (N row) 0 (r row) → Round r R G N K (row + 1) moved
    round_kept so_far f out least = record {
      trim = both so_far f out;
      untouched = λ i t m. f.others i t (λ e. omega arith) ∙ so_far.untouched i t (omega arith);
      still = λ e i m.
          ⊎_elim
          (λ (same : i ≡ row). subst (λ j. Earliest (N j) 0 (r j)) (sym same) least)
          (λ (other : i ≡ row → ⊥). same_row i other (so_far.still e i (omega (arith, other))))
          (cases_eq i row);
      supported = next_supported so_far f;
      shifted = λ e. let (i, m, off) = so_far.shifted e in (i, m, gone i off);
    }
      where
        same_row : (i : ℕ) → (i ≡ row → ⊥) → Earliest (Q i) 0 (r i) → Earliest (N i) 0 (r i)
        same_row i other e = record { reached = e.reached; held = f.others i (r i) other ∙ e.held; gap = λ t a b. f.others i t other ∙ e.gap t a b }

        gone : (i : ℕ) → Q i (r i) ≡ false → N i (r i) ≡ false
        gone i off = ⊎_elim (λ (on : N i (r i) ≡ true). absurd (both_ways _ off (f.less i (r i) on))) (λ (h : N i (r i) ≡ false). h) (cases_Bool (N i (r i)))

    pub round_moved :
        Round r R G Q H row moved → RowTrim w U r row Q N → Out Q H N K → (v : ℕ) → Earliest (N row) 0 v → (v ≡ r row → ⊥) →
        Round r R G N K (row + 1) true
    round_moved so_far f out v least other = record {
      trim = both so_far f out;
      untouched = λ i t m. f.others i t (λ e. omega arith) ∙ so_far.untouched i t (omega arith);
      still = λ e. absurd (both_ways _ e refl);
      supported = next_supported so_far f;
      shifted = λ _. (row, l, off);
    }
      where
        off : N row (r row) ≡ false
        off =
            ⊎_elim
            (λ (on : N row (r row) ≡ true). absurd (other (
            let a = earliest_least (N row) 0 v (r row) least (omega arith) on in
            let b = early_now so_far.trim row v l (f.less row v least.held) in
            omega arith
            )))
            (λ (h : N row (r row) ≡ false). h)
            (cases_Bool (N row (r row)))

    pub round_next :
        Round r R G Q H row moved → RowTrim w U r row Q N → Out Q H N K → (b : Bool) → LeastStart (N row) (r row) (Some b) →
        Round r R G N K (row + 1) (moved || b)
    round_next so_far f out false least = rw (or-false moved) (round_kept so_far f out least)
    round_next so_far f out true (v, least, other) = rw (or-true moved) (round_moved so_far f out v least other)

    pub round_emptied : Round r R G Q H row moved → RowTrim w U r row Q N → Out Q H N K → ((t : ℕ) → N row t ≡ false) → Trim w U R G N K × NoneWithin w U R
    round_emptied so_far f out none = (both so_far f out, narrowed_empty w U R N (both so_far f out).narrowed row l none)

  -- all rows are trimmed
  pub round_still : (r : ℕ → ℕ) (R G Q H : Rows) (row : ℕ) → w.tickets ≤ row → Round r R G Q H row false → Largest w U R Q
  round_still r R G Q H row l so_far =
      narrowed_largest w U R Q so_far.trim.narrowed r (λ i m. so_far.still refl i (omega arith)) (λ i t m on. so_far.supported i t (omega arith) on)

  pub round_shifted : (r : ℕ → ℕ) (R G Q H : Rows) (row : ℕ) → Bounded R → Releases w R r → Round r R G Q H row true → starts w Q < starts w R
  round_shifted r R G Q H row b rel so_far =
      let (i, m, off) = so_far.shifted refl in
      starts_less R Q i (r i) b m (rel i m).held off so_far.trim.narrowed.within

  pub round_done :
      (r : ℕ → ℕ) (R G Q H : Rows) (row : ℕ) (b : Bool) → w.tickets ≤ row → Bounded R → Releases w R r → Round r R G Q H row b → RoundDone w U R Q (Some b)
  round_done r R G Q H row false l bounded rel so_far = round_still r R G Q H row l so_far
  round_done r R G Q H row true l bounded rel so_far = round_shifted r R G Q H row bounded rel so_far

  -- ---- rounds

  pub settled_largest : (S R Q : Rows) → Narrowed w U S R → Largest w U R Q → Largest w U S Q
  settled_largest S R Q f g = record {
    itself = g.itself;
    within = λ i t on. f.within i t (g.within i t on);
    contains = λ T self in_s. g.contains T self (f.keeps T self in_s);
  }

  pub settled_none : (S R : Rows) → Narrowed w U S R → NoneWithin w U R → NoneWithin w U S
  settled_none S R f none T self in_s = none T self (f.keeps T self in_s)

  -- the answer's variant tells what was found
  pub settled_some : (S Q : Rows) (r : Option Unit) → is_some r ≡ true → Settled w U S Q r → Largest w U S Q
  settled_some S Q (Some _) e best = best
  settled_some S Q None e none = absurd (both_ways _ refl e)

  pub settled_nothing : (S Q : Rows) (r : Option Unit) → is_some r ≡ false → Settled w U S Q r → NoneWithin w U S
  settled_nothing S Q (Some _) e best = absurd (both_ways _ e refl)
  settled_nothing S Q None e none = none
