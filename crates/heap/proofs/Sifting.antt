-- Lists on their way to a tree, with one entry that still goes up or down. Assumes nothing.
use Rattle.std.proofs.Common.{◌≡◌, ℕ, ◌<◌, Bool, List, length, get_or, Some, None, sym, subst, arith, Ordering}
use Rattle.std.specs.Cmp.{IsTotalOrder}
use Rattle.std.proofs.lemmas.List.Edits.{Swapped}
use Rattle.heap.specs.Steps.{Higher, Lower}
use Rattle.heap.specs.Trees.{below, by_key, Tree}
use Rattle.heap.proofs.Orders.{asymmetric, chains}
use Rattle.heap.proofs.Trees.{Lawful, Loose, Under, Over, fixed, up_loose, up_under, down_loose, down_over}

-- the laws of the keys hold of the entries
pub lawful : {X K : Type 0} (cmp : K → K → Ordering) (keyed : X → K) → IsTotalOrder cmp → Lawful (by_key (below cmp) keyed)
lawful cmp keyed total = record {
  asymmetric = λ a b. asymmetric cmp total (keyed a) (keyed b);
  chains = λ a b c. chains cmp total (keyed a) (keyed b) (keyed c);
}

module _ {X : Type 0} (before : X → X → Bool) where
  -- the entry at `at` goes up
  pub record Rising (xs : List X) (at : ℕ) : Type 0 where
    pub here : at < length xs
    pub loose : (d : X) → Loose before (λ i. get_or xs i d) (length xs) at
    pub under : (d : X) → Under before (λ i. get_or xs i d) (length xs) at (get_or xs at d)

  -- the entry at `at` goes down
  pub record Sinking (xs : List X) (at : ℕ) : Type 0 where
    pub loose : (d : X) → Loose before (λ i. get_or xs i d) (length xs) at
    pub over : (d : X) → Over before (λ i. get_or xs i d) (length xs) at (get_or xs at d)

  -- an entry that goes no higher is in its place
  pub risen : (xs : List X) (at : ℕ) → Rising xs at → Higher before xs at None → Tree before xs
  risen xs at r stays d = fixed before (λ i. get_or xs i d) (length xs) at (r.loose d) (r.under d) (stays d)

  -- so is one that goes no lower
  pub sunk : (xs : List X) (at : ℕ) → Sinking xs at → Lower before xs at None → Tree before xs
  sunk xs at s stays d = fixed before (λ i. get_or xs i d) (length xs) at (s.loose d) (stays d) (s.over d)

  module _ (law : Lawful before) where
    -- the entry at c is before its parent at p, and they change places
    module _ (xs ys : List X) (p c : ℕ) (long : length ys ≡ length xs) (swap : (d : X) → Swapped (λ i. get_or xs i d) (λ i. get_or ys i d) c p) where
      pub rises : Higher before xs c (Some p) → Rising xs c → Rising ys p
      rises up r = record {
        here = omega (arith, up.0.1, up.0.2);
        loose = λ d. subst (λ n. Loose before (λ i. get_or ys i d) n p) (sym long) (up_loose before law _ _ (length xs) p c up.0 (swap d) (up.1 d) (r.loose d));
        under = λ d. subst (λ n. Under before (λ i. get_or ys i d) n p (get_or ys p d)) (sym long) (up_under before law _ _ (length xs) p c up.0 (swap d) (up.1 d) (r.loose d));
      }

      pub sinks : Lower before xs p (Some c) → Sinking xs p → Sinking ys c
      sinks down s = record {
        loose = λ d. subst (λ n. Loose before (λ i. get_or ys i d) n c) (sym long) (down_loose before law _ _ (length xs) p c down.0.0 (swap d) (down.1 d) (down.0.1 d) (s.loose d));
        over = λ d. subst (λ n. Over before (λ i. get_or ys i d) n c (get_or ys c d)) (sym long) (down_over before law _ _ (length xs) p c down.0.0 (swap d) (down.1 d));
      }
