-- What a heap's users draw from its contracts. Assumes nothing.
use Rattle.std.proofs.Common.{◌≡◌, ℕ, ◌<◌, Bool, false, List, [], ◌∷◌, length, take, Some, None, Ok, Err, Option, Result, sym, ap, ◌∙◌, subst, arith}
use Rattle.std.specs.List.{ContainsAt, AllByRecursion}
use Rattle.std.specs.List.Sorted.{IsPermutation}
use Rattle.std.proofs.ByRecursion.{all-has, All-take}
use Rattle.std.proofs.lemmas.List.{length-take-le}
use Rattle.heap.specs.declared.entry.Entry.{Ghosts as EntryGhosts}
use Rattle.std.specs.declared.cmp.Ord.{Ghosts as OrdGhosts}
use Rattle.std.specs.declared.cmp.PartialEq.{Ghosts as EqGhosts}
use Rattle.std.specs.declared.cmp.PartialOrd.{Ghosts as PartialGhosts}
use Rattle.heap.specs.declared.heap.Heap.{Heap}
use Rattle.heap.specs.Trees.{by_key, Front}
use Rattle.heap.specs.Waiting.{waiting, room, Pushed, Peeked, Popped}

-- what holds of all that wait holds of the one in front
pub of_front : {X : Type 0} (before : X → X → Bool) (P : X → Type 0) (xs : List X) (x : X) → Front before xs x → AllByRecursion P xs → P x
of_front before P xs x f all = let h : AllByRecursion P (x ∷ []) = subst (AllByRecursion P) f.first (All-take P 1 xs all) in h.0

same_front : {X : Type 0} (before : X → X → Bool) (xs : List X) (x y : X) → Front before xs x → Front before xs y → y ≡ x
same_front before xs x y f g = let e = sym g.first ∙ f.first in cc

-- where keys never tie, each entry that none is before has the key of the one in front
pub least_key : {X K : Type 0} (before : K → K → Bool) (keyed : X → K) → ((a b : K) → before a b ≡ false → before b a ≡ false → a ≡ b)
    → (xs : List X) (x y : X) → Front (by_key before keyed) xs x → ContainsAt xs y → AllByRecursion (λ z. by_key before keyed z y ≡ false) xs → keyed y ≡ keyed x
least_key before keyed apart xs x y f has least =
    apart (keyed y) (keyed x) (all-has (λ z. by_key before keyed z x ≡ false) xs y f.least has) (of_front (by_key before keyed) (λ z. by_key before keyed z y ≡ false) xs x f least)

module _ {X K : Type 0} {kind : EntryGhosts X K} {order : OrdGhosts K} {equal : EqGhosts K} {partly : PartialGhosts K} where
  -- an entry that there is room for is taken
  pub taken : (h : Heap X K kind order equal partly) (e : X) (r : Result Unit X) (k : Heap X K kind order equal partly) → length (waiting h) < room h → Pushed h e r k → IsPermutation (e ∷ waiting h) (waiting k)
  taken h e (Ok _) k space p = p
  taken h e (Err x) k space p = absurd (omega (arith, p.1))

  -- how many wait, by the heap's own count
  pub count : (h : Heap X K kind order equal partly) → length (waiting h) ≡ h.len
  count h = length-take-le h.len h.slots.now h.fits

  module _ (before : X → X → Bool) where
    -- pop hands out what peek shows
    pub as_peeked : (h k : Heap X K kind order equal partly) (x : X) (r : Option X) → Peeked before h (Some x) → Popped before h r k → (r ≡ Some x) × IsPermutation (waiting h) (x ∷ waiting k)
    as_peeked h k x None p q = let e : take 1 (waiting h) ≡ [] = ap (take 1) q.0 in let z : ◌≡◌ {A = ℕ} 0 1 = ap length (sym e ∙ p.first) in absurd (omega arith)
    as_peeked h k x (Some y) p q =
        let e : y ≡ x = same_front before (waiting h) x y p q.0 in
        (ap Some e, subst (λ (z : X). IsPermutation (waiting h) (z ∷ waiting k)) e q.1)
