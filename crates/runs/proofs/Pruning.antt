-- A table that is cut down to the largest self-supporting one. Assumes nothing.
use Rattle.std.proofs.Common.{◌≡◌, ◌∙◌, ℕ, ◌<◌, true, false, ⊎_elim}
use Rattle.std.proofs.lemmas.Bool.{both_ways, cases_Bool}
use Rattle.stores.specs.Sets.{without}
use Rattle.stores.proofs.Moves.{without_held, without_other}
use Rattle.runs.specs.Tables.{Table, Setting, Within, Releases, Narrowed, NoneWithin, Largest}
use Rattle.runs.proofs.Tables.{Laws, Early, within_early, self_early}

pub narrowed_none : (w : Setting) (U : ℕ) (S : Table) → Narrowed w U S S
narrowed_none w U S = record { within = λ i t on. on; keeps = λ T _ h. h }

pub narrowed_trans : (w : Setting) (U : ℕ) (S R Q : Table) → Narrowed w U S R → Narrowed w U R Q → Narrowed w U S Q
narrowed_trans w U S R Q f g = record { within = λ i t on. f.within i t (g.within i t on); keeps = λ T self in_s. g.keeps T self (f.keeps T self in_s) }

-- starts that early releases do not support can be cut
pub narrowed_less :
    (w : Setting) → Laws w → (U : ℕ) (S R : Table) (r : ℕ → ℕ) → Early w S r → Within R S →
    ((i t : ℕ) → S i t ≡ true → R i t ≡ false → (i < w.tickets) × (w.supports r i t U → ⊥)) → Narrowed w U S R
narrowed_less w ok U S R r early less cut = record {
  within = less;
  keeps = λ T self in_s i t on.
      ⊎_elim
      (λ (h : R i t ≡ true). h)
      (λ (h : R i t ≡ false). let (l, dear) = cut i t (in_s i t on) h in absurd (dear (self_early w ok self (within_early w in_s early) i t l on)))
      (cases_Bool (R i t));
}

-- a start that early releases do not support can be cut
pub narrowed_cut :
    (w : Setting) → Laws w → (U : ℕ) (S R : Table) → Narrowed w U S R → (r : ℕ → ℕ) (i t : ℕ) → Early w R r → i < w.tickets → (w.supports r i t U → ⊥) → Narrowed w U S (without R i t)
narrowed_cut w ok U S R so_far r i t early l dear = record {
  within = λ j u on. so_far.within j u (without_held R i t j u on);
  keeps = λ T self in_s j u on.
      let in_r = so_far.keeps T self in_s in
      without_other R i t j u (λ e d. dear (self_early w ok self (within_early w in_r early) i t l (sym_two T i t j u e d ∙ on))) ∙ in_r j u on;
}
  where
    sym_two : (T : Table) (i t j u : ℕ) → j ≡ i → u ≡ t → T i t ≡ T j u
    sym_two T i t j u e d = rw (e, d)

module _ (w : Setting) (U : ℕ) (S R : Table) (so_far : Narrowed w U S R) where
  -- where a ticket's row is left empty, no table supports itself
  pub narrowed_empty : (i : ℕ) → i < w.tickets → ((t : ℕ) → R i t ≡ false) → NoneWithin w U S
  narrowed_empty i l none T self in_s = let (t, on) = self.full i l in both_ways (R i t) (none t) (so_far.keeps T self in_s i t on)

  -- where the releases of what is left support all of it, it is the largest
  pub narrowed_largest : (r : ℕ → ℕ) → Releases w R r → ((i t : ℕ) → i < w.tickets → R i t ≡ true → w.supports r i t U) → Largest w U S R
  narrowed_largest r rel all = record {
    itself = record { full = λ i l. (r i, (rel i l).held); supported = λ i t l on. (r, rel, all i t l on) };
    within = so_far.within;
    contains = so_far.keeps;
  }
