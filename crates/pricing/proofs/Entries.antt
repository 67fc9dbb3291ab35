-- Working entries: what pinning writes, and what putting back undoes. Assumes nothing.
use Rattle.std.proofs.Common.{◌≡◌, ℕ, ◌<◌, ◌≤◌, Bool, List, length, get_or, set, ap, ◌∙◌, arith, length-set, set-set}
use mathlib.Core.HLevel.{is_prop→PathP}
use native.Mathlib.Bridge.{le_prop}
use lib.Seq.{set-get_or}
use Rattle.std.proofs.lemmas.Grind.{common_steps}
use Rattle.std.proofs.lemmas.List.{get_or_default}
use Rattle.std.specs.List.{refill}
use Rattle.pricing.specs.declared.work.Work.{Work}
use Rattle.pricing.specs.Works.{blank, entry, released, moved}

-- entries that differ in their proofs alone are the same
pub work_same : (x y : Work) → x.release ≡ y.release → x.weight ≡ y.weight → x.length ≡ y.length → x.pinned ≡ y.pinned → x ≡ y
work_same x y a b c m = λ i. record {
  release = a i;
  weight = b i;
  length = c i;
  pinned = m i;
  plays = is_prop→PathP (λ j. 1 ≤ c j) (λ j. le_prop) x.plays y.plays i;
  short = is_prop→PathP (λ j. c j ≤ 16) (λ j. le_prop) x.short y.short i;
  light = is_prop→PathP (λ j. b j ≤ 1000) (λ j. le_prop) x.light y.light i;
}

-- what is read at a place of the entries
pub found : (xs ys : List Work) (i : ℕ) (o : Work) → ys ≡ xs → i < length xs → o ≡ get_or ys i o → o ≡ entry xs i
found xs ys i o e h is = is ∙ ap (λ (zs : List Work). get_or zs i o) e ∙ get_or_default xs i o blank h

-- a write of as many elements is what is left
refilled : {X : Type 0} (xs ws : List X) → length ws ≡ length xs → refill (length xs) xs ws ≡ ws
refilled xs ws e = grind (arith, common_steps)

-- what is written has the parts of o: it is o
pub written_back :
    (xs ws : List Work) (i : ℕ) (o x : Work) → ws ≡ xs → x.release ≡ o.release → x.weight ≡ o.weight → x.length ≡ o.length → x.pinned ≡ o.pinned →
    refill (length xs) xs (set ws i x) ≡ set xs i o
written_back xs ws i o x same r w p m =
    refilled xs (set ws i x) (length-set ws i x ∙ ap length same)
    ∙ ap (λ (ys : List Work). set ys i x) same
    ∙ ap (λ (y : Work). set xs i y) (work_same x o r w p m)

-- the entry o with the number i is replaced by x
module _ (xs ws : List Work) (i : ℕ) (o x : Work) (same : ws ≡ xs) (is : o ≡ entry xs i) where
  replaced : refill (length xs) xs (set ws i x) ≡ set xs i x
  replaced = refilled xs (set ws i x) (length-set ws i x ∙ ap length same) ∙ ap (λ (ys : List Work). set ys i x) same

  pub pinned : (t : ℕ) (b : Bool) → x.release ≡ t → x.weight ≡ o.weight → x.length ≡ o.length → x.pinned ≡ b → refill (length xs) xs (set ws i x) ≡ moved xs i t b
  unfolding moved
  pinned t b r w p m =
      replaced
      ∙ ap (λ (y : Work). set xs i y) (work_same x (released (entry xs i) t b) r (w ∙ ap (λ (y : Work). y.weight) is) (p ∙ ap (λ (y : Work). y.length) is) m)

  pub put_back : set (refill (length xs) xs (set ws i x)) i o ≡ xs
  put_back = ap (λ (ys : List Work). set ys i o) replaced ∙ set-set xs i x o ∙ ap (λ (y : Work). set xs i y) is ∙ set-get_or xs i blank
