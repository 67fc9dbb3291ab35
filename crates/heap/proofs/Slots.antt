-- What push and pop make of the lent slots. Assumes nothing.
use Rattle.std.proofs.Common.{◌≡◌, ℕ, zero, suc, ◌+◌, ◌-◌, ◌<◌, ◌≤◌, Bool, false, List, [], ◌∷◌, ◌++◌, length, get_or, take, set, sym, refl, ap, ◌∙◌, subst, arith, take-suc, take_all}
use Rattle.std.specs.List.{slice_get}
use Rattle.std.specs.List.Sorted.{IsPermutation}
use Rattle.std.proofs.ByRecursion.{All-from_get_or}
use Rattle.std.proofs.lemmas.List.{length_push, length-set, length-take-le, get_or-take, take_at, take_more_set}
use Rattle.std.proofs.lemmas.List.Sorted.{length_permutation, IsPermutation-cons, IsPermutation-refl, IsPermutation-sym, IsPermutation-to_front, IsPermutation-trans}
use Rattle.heap.specs.declared.entry.Entry.{Ghosts as EntryGhosts}
use Rattle.std.specs.declared.cmp.Ord.{Ghosts as OrdGhosts}
use Rattle.std.specs.declared.cmp.PartialEq.{Ghosts as EqGhosts}
use Rattle.std.specs.declared.cmp.PartialOrd.{Ghosts as PartialGhosts}
use Rattle.heap.specs.declared.heap.Heap.{Heap}
use Rattle.heap.specs.Trees.{Tree, Front}
use Rattle.heap.specs.Waiting.{waiting, Peeked}
use Rattle.heap.proofs.Trees.{Lawful, root}

module _ {X : Type 0} where
  -- e has the place n; w is what is sifted up, and becomes ys
  module _ (xs : List X) (n : ℕ) (e : X) (l : n < length xs) (w : List X) (part : w ≡ take (n + 1 - 0) (set xs n e)) where
    with_last : w ≡ take n xs ++ e ∷ []
    with_last = part ∙ ap (λ (k : ℕ). take k (set xs n e)) (omega arith) ∙ take_more_set xs n e l

    with_last_long : length w ≡ n + 1
    with_last_long = ap length with_last ∙ length_push (take n xs) e ∙ ap (λ k. k + 1) (length-take-le n xs (omega arith))

    pushed_long : (ys : List X) → IsPermutation w ys → length ys ≡ n + 1
    pushed_long ys s = length_permutation w ys s ∙ with_last_long

    pub pushed_shuffled : (ys rest : List X) → IsPermutation w ys → IsPermutation (e ∷ take n xs) (take (n + 1) (ys ++ rest))
    pushed_shuffled ys rest s =
        let begun : IsPermutation (e ∷ take n xs) w = subst (IsPermutation (e ∷ take n xs)) (sym with_last) (IsPermutation-sym _ _ (IsPermutation-to_front (take n xs) e)) in
        subst (IsPermutation (e ∷ take n xs)) (sym (take_at ys rest (n + 1) (pushed_long ys s))) (IsPermutation-trans (e ∷ take n xs) w ys begun s)

  -- the last entry in the place of the first, which is taken out
  without_first : (xs : List X) (m : ℕ) (d b : X) → length xs ≡ suc m → IsPermutation xs (get_or xs 0 d ∷ take m (set xs 0 (get_or xs m b)))
  without_first [] m d b l = absurd (omega arith)
  without_first (x ∷ []) zero d b l = IsPermutation-refl (x ∷ [])
  without_first (x ∷ y ∷ ys) zero d b l = absurd (omega arith)
  without_first (x ∷ xs) (suc k) d b l =
      IsPermutation-cons x _ _ (subst (λ (bs : List X). IsPermutation bs (get_or xs k b ∷ take k xs)) (sym (take-suc xs k b (omega arith)) ∙ take_all (suc k) xs (omega arith)) (IsPermutation-to_front (take k xs) (get_or xs k b)))

  -- the first entry in its place again
  first_again : (xs : List X) (m : ℕ) (d z : X) → m < length xs → set (take m (set xs 0 z)) 0 (get_or xs 0 d) ≡ take m xs
  first_again [] m d z l = absurd (omega arith)
  first_again (a ∷ xs) zero d z l = refl
  first_again (a ∷ xs) (suc k) d z l = refl

  -- a stands first in xs and z last, and z has the place of a; w is what is sifted down, and becomes ys
  module _ (xs : List X) (a z : X) (some : 0 < length xs) (first : a ≡ get_or xs 0 a) (last : z ≡ get_or xs (length xs - 1) z)
      (w : List X) (part : w ≡ take (length xs - 1 - 0) (set xs 0 z)) where
    without_last : w ≡ take (length xs - 1) (set xs 0 z)
    without_last = part ∙ ap (λ (k : ℕ). take k (set xs 0 z)) (omega arith)

    pub taken_long : (ys : List X) → IsPermutation w ys → length ys ≡ length xs - 1
    taken_long ys s = length_permutation w ys s ∙ ap length without_last ∙ length-take-le (length xs - 1) (set xs 0 z) (omega (arith, length-set xs 0 z))

    pub taken_shuffled : (ys rest : List X) → IsPermutation w ys → IsPermutation xs (a ∷ take (length xs - 1) (ys ++ rest))
    taken_shuffled ys rest s =
        let same : get_or xs 0 a ∷ take (length xs - 1) (set xs 0 (get_or xs (length xs - 1) z)) ≡ a ∷ w = λ i. sym first i ∷ (ap (λ e. take (length xs - 1) (set xs 0 e)) (sym last) ∙ sym without_last) i in
        let begun : IsPermutation xs (a ∷ w) = subst (IsPermutation xs) same (without_first xs (length xs - 1) a z (omega arith)) in
        subst (λ (bs : List X). IsPermutation xs (a ∷ bs)) (sym (take_at ys rest (length xs - 1) (taken_long ys s)))
        (IsPermutation-trans xs (a ∷ w) (a ∷ ys) begun (IsPermutation-cons a w ys s))

  -- a stands first
  first_of : (xs : List X) (a : X) → 0 < length xs → a ≡ get_or xs 0 a → take 1 xs ≡ a ∷ []
  first_of [] a l e = absurd (omega arith)
  first_of (x ∷ xs) a l e = λ i. sym e i ∷ []

  module _ (before : X → X → Bool) where
    -- fewer entries of a tree
    tree_front : (xs : List X) (m : ℕ) → m ≤ length xs → Tree before xs → Tree before (take m xs)
    tree_front xs m fits tree d p i h =
        let short : length (take m xs) ≡ m = length-take-le m xs fits in
        (λ t. before (same d i (omega arith) t) (same d p (omega arith) t)) ∙ tree d p i (h.0, omega arith, h.2)
      where
        same : (d : X) (i : ℕ) → i < m → get_or (take m xs) i d ≡ get_or xs i d
        same d i l = get_or-take m xs i d l

    -- what is sifted down is a tree but for the first
    pub but_first : (xs w : List X) (a z : X) → 0 < length xs → a ≡ get_or xs 0 a → w ≡ take (length xs - 1 - 0) (set xs 0 z) → Tree before xs → Tree before (set w 0 a)
    but_first xs w a z some first is tree =
        let back : set w 0 a ≡ take (length xs - 1) xs =
        ap (set w 0) first ∙ ap (λ (bs : List X). set bs 0 (get_or xs 0 a)) (is ∙ ap (λ (k : ℕ). take k (set xs 0 z)) (omega arith)) ∙ first_again xs (length xs - 1) a z (omega arith) in
        subst (Tree before) (sym back) (tree_front xs (length xs - 1) (omega arith) tree)

    -- a tree in the first n of the slots
    pub tree_of : (xs ys rest : List X) (n : ℕ) → xs ≡ ys ++ rest → length ys ≡ n → Tree before ys → Tree before (take n xs)
    tree_of xs ys rest n is long tree = subst (Tree before) (sym (ap (take n) is ∙ take_at ys rest n long)) tree

    -- the first of a tree
    pub front : Lawful before → (xs : List X) (a : X) → 0 < length xs → a ≡ get_or xs 0 a → Tree before xs → Front before xs a
    front law xs a some first tree = record {
      first = first_of xs a some first;
      least = All-from_get_or (λ y. before y a ≡ false) xs a (λ i l. ap (before (get_or xs i a)) first ∙ root before law (λ i. get_or xs i a) (length xs) (tree a) i l);
    }

    -- a look at the first of those that wait
    pub looked : {K : Type 0} {kind : EntryGhosts X K} {order : OrdGhosts K} {equal : EqGhosts K} {partly : PartialGhosts K} → Lawful before
        → (h : Heap X K kind order equal partly) (xs : List X) → waiting h ≡ xs → Tree before xs → Peeked before h (slice_get xs 0)
    looked law h [] e tree = e
    looked law h (x ∷ xs) e tree = subst (λ (ws : List X). Front before ws x) (sym e) (front law (x ∷ xs) x (omega arith) refl tree)
