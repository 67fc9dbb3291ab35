-- What a prune comes to. Assumes nothing.
use Rattle.std.proofs.Common.{◌≡◌, ℕ, ◌+◌, ◌-◌, ◌≤◌, false, List, length, Result, sym, ap, ◌∙◌, subst, arith}
use mathlib.Core.Path.{fun_ext}
use Rattle.std.proofs.lemmas.Bool.Decides.{nat_tests}
use Rattle.tickets.specs.Collections.{posted}
use Rattle.tickets.specs.declared.planner_refusal.PlannerRefusal.{PlannerRefusal}
use Rattle.spreads.specs.Lines.{sum_to}
use Rattle.spreads.proofs.Sums.{sum_longer}
use Rattle.stores.proofs.Counts.{count_none}
use Rattle.stores.specs.Sets.{Rows, Bounded, no_starts, size_of}
use Rattle.runs.specs.Tables.{Setting, Full, starts}
use Rattle.runs.specs.Planner.{Means}
use Rattle.runs.specs.declared.call.Call.TheVariants.{Prune}
use Rattle.runs.proofs.Starts.{starts_split, starts_full}
use Rattle.runs.proofs.Runs.{every_run}
use Rattle.planner.specs.declared.state.Planner.{Planner}
use Rattle.planner.specs.Sets.{union, total}
use Rattle.planner.specs.States.{setting_of, state_of}
use Rattle.planner.specs.Trims.{Trim}
use Rattle.planner.specs.Promise.{pruned, cuts_of, ListsCuts, CutList, Pruned}
use Rattle.planner.proofs.Walks.{out_back, out_gone}
use Rattle.planner.proofs.Going.{goes_on}

-- the starts of the first n rows are those of the tickets
pub counted : (w : Setting) (R : Rows) (n k : ℕ) → n ≡ w.tickets → k ≡ sum_to n (λ i. size_of (R i)) → k ≡ starts w R
counted w R n k e h = h ∙ ap (λ m. sum_to m (λ i. size_of (R i))) e

-- starts went out of S into an empty set: Q is left of S, and H has the cuts
module _ (w : Setting) (U : ℕ) (S G Q H : Rows) (none : G ≡ no_starts) (trim : Trim w U S G Q H) where
  none_at : (i t : ℕ) → G i t ≡ false
  none_at i t = ap (λ (T : Rows). T i t) none

  pub cuts_back : union Q H ≡ S
  cuts_back = out_back S G Q H none_at trim.out

  cuts_are : H ≡ cuts_of S Q
  cuts_are = fun_ext (λ i. fun_ext (λ t. out_gone S G Q H none_at trim.out i t))

  pub cuts_many : starts w S ≡ starts w Q + starts w H
  cuts_many = starts_split w S Q trim.narrowed.within ∙ ap (λ (T : Rows). starts w Q + starts w T) (sym cuts_are)

  -- each row keeps a start, so that a list that is enough has room for the cuts
  pub cuts_room : (room : ℕ) → Bounded Q → Full w Q → starts w S - w.tickets ≤ room → starts w H ≤ room
  cuts_room room b full enough = omega (arith, cuts_many, starts_full w Q (λ i t on. (b i t on).1) full)

  pub cuts_listed : (old new : List ℕ) (k : ℕ) → ListsCuts H old new k → ListsCuts (cuts_of S Q) old new k
  cuts_listed old new k list = subst (λ (P : Rows). ListsCuts P old new k) cuts_are list

  -- only tickets' rows have cuts
  pub cuts_total : w.tickets ≤ 24 → total H ≡ starts w H
  unfolding total
  cuts_total few = sum_longer w.tickets 24 (λ i. size_of (H i)) (λ i l. count_none (H i) 256 (λ t _. none_past i t l)) few
    where
      none_past : (i t : ℕ) → w.tickets ≤ i → H i t ≡ false
      none_past i t l =
          let is : H i t ≡ cuts_of S Q i t = ap (λ (T : Rows). T i t) cuts_are in
          let kept : Q i t ≡ S i t = trim.past i t l in
          grind (arith, nat_tests)

module _ {S : Type 0} (rows : S → Rows) where
  -- what a prune means gives the whole promise
  pub promised :
      (p q : Planner S) (old : List ℕ) (r : Result ℕ PlannerRefusal) (new : List ℕ) → q.collection ≡ p.collection →
      Means (setting_of p) (state_of rows p) (Prune (length old)) (pruned r) (state_of rows q) →
      CutList (rows p.store) (rows q.store) old r new → Pruned rows p old r q new
  promised p q old r new same means list = record {
    moved = goes_on rows p q (Prune (length old)) (pruned r) same means;
    list = list;
    promise = λ h led. record { right = (every_run (posted p.collection)).prunes h (length old) (state_of rows p) (state_of rows q) (pruned r) led means; list = list };
  }
