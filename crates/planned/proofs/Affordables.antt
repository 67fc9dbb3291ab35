-- The plans that are affordable in a table, and in the largest self-supporting one there. Assumes nothing.
use Rattle.std.proofs.Common.{ℕ, ◌↔◌, List}
use Rattle.runs.specs.Tables.{Table, Plan, Setting, NoneWithin, Largest, Affordable}
use Rattle.runs.specs.Supports.{setting}
use Rattle.runs.proofs.Tables.{Laws, one, one_held, one_within, one_self}
use Rattle.runs.proofs.Supports.{laws}
use Rattle.planned.specs.Reports.{NoPlanLost}

module _ (w : Setting) (ok : Laws w) (U : ℕ) (S : Table) where
  largest_keeps : (L : Table) → Largest w U S L → (s : Plan) → Affordable w U S s ↔ Affordable w U L s
  largest_keeps L a s = (
    λ h. record {
      chosen = λ i l. a.contains (one w s) (one_self w ok s U h.afforded) (one_within w s S h.chosen) i (s i) (one_held w s i l);
      afforded = h.afforded;
    },
    λ h. record { chosen = λ i l. a.within i (s i) (h.chosen i l); afforded = h.afforded },
  )

  none_affordable : NoneWithin w U S → (s : Plan) → Affordable w U S s → ⊥
  none_affordable none s h = none (one w s) (one_self w ok s U h.afforded) (one_within w s S h.chosen)

pub no_plan_lost : (file : List ℕ) → NoPlanLost file
no_plan_lost file = record {
  planned = λ ts U L a s. largest_keeps (setting ts) (laws ts) U _ L a.largest s;
  hopeless = λ h s. none_affordable (setting h.ts) (laws h.ts) _ _ h.none s;
}
