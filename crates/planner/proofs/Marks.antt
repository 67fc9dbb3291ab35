-- The tables at the open marks, and what becomes of them. Assumes nothing.
use Rattle.std.proofs.Common.{◌≡◌, ℕ, suc, ◌+◌, ◌-◌, ◌<◌, ◌≤◌, List, [], ◌∷◌, ◌++◌, length, reverse, take, get_or, set, refl, ap, sym, ◌∙◌, arith}
use mathlib.Core.Path.{fun_ext}
use Rattle.std.proofs.lemmas.List.{reverse-append, length-reverse, length-set, take_all, take_more, take_more_set}
use Rattle.std.proofs.lemmas.Bool.Decides.{nat_tests}
use Rattle.arrayvec.specs.ArrayVec.{ArrayVec, with_items}
use Rattle.arrayvec.proofs.ArrayVecLemmas.{items-with_items}
use Rattle.stores.specs.Sets.{Rows, no_starts}
use Rattle.stores.specs.BitRows.{bit_rows}
use Rattle.stores.specs.declared.bit_store.BitStore.{BitStore}
use Rattle.runs.specs.Planner.{State}
use Rattle.planner.specs.Sets.{union, Out}
use Rattle.planner.specs.declared.cutting.Cutting.{Cutting}
use Rattle.planner.specs.Cuttings.{Cuts}
use Rattle.planner.specs.Levels.{at_marks}
use Rattle.planner.proofs.Walks.{out_back}

pub marks_length : (R : Rows) (sets : List BitStore) → length (at_marks R sets) ≡ length sets
marks_length R [] = refl
marks_length R (x ∷ sets) = ap suc (marks_length (union R (bit_rows x)) sets)

-- there is a mark for each level
pub levels_many : (R : Rows) (levels : List BitStore) → length (at_marks R (reverse levels)) ≡ length levels
levels_many R levels = marks_length R (reverse levels) ∙ length-reverse levels

-- the newest level of a list is its last
pub newest_last : (rest : List BitStore) (x : BitStore) → reverse (rest ++ x ∷ []) ≡ x ∷ reverse rest
newest_last rest x = reverse-append rest (x ∷ [])

-- where a level is open, one is the newest
pub newest_of : (levels : List BitStore) → 1 ≤ length levels → (below : List BitStore) × (newest : BitStore) × (levels ≡ below ++ newest ∷ [])
newest_of [] some = absurd (omega arith)
newest_of (x ∷ []) some = ([], x, refl)
newest_of (x ∷ y ∷ levels) some = let (below, newest, is) = newest_of (y ∷ levels) (omega arith) in (x ∷ below, newest, ap (λ sets. x ∷ sets) is)

-- what was taken out is noted in the newest set
pub marks_noted :
    (R G : Rows) (sets : List BitStore) (x y : BitStore) → 0 < length sets → x ≡ get_or sets (length sets - 1) x → bit_rows y ≡ union (bit_rows x) G →
    at_marks R (reverse (set sets (length sets - 1) y)) ≡ at_marks (union R G) (reverse sets)
marks_noted R G sets x y some last noted =
    let k : ℕ = length sets - 1 in
    let rest : List BitStore = take k sets in
    let old : sets ≡ rest ++ x ∷ [] = sym (take_all (k + 1) sets (omega arith)) ∙ take_more sets k x (omega arith) ∙ ap (λ z. rest ++ z ∷ []) (sym last) in
    let new : set sets k y ≡ rest ++ y ∷ [] = sym (take_all (k + 1) (set sets k y) (omega (arith, length-set sets k y))) ∙ take_more_set sets k y (omega arith) in
    let newest : union R (bit_rows y) ≡ union (union R G) (bit_rows x) = ap (union R) noted ∙ fun_ext (λ i. fun_ext (λ t. grind (arith, nat_tests))) in
    ap (λ levels. at_marks R (reverse levels)) new ∙ ap (at_marks R) (newest_last rest y)
    ∙ ap (λ (A : Rows). A ∷ at_marks A (reverse rest)) newest
    ∙ sym (ap (λ levels. at_marks (union R G) (reverse levels)) old ∙ ap (at_marks (union R G)) (newest_last rest x))

-- the levels' sets were lent as a slice, and come back
pub marks_lent :
    (R Q : Rows) (levels : ArrayVec BitStore) (lent left : List BitStore) → lent ≡ levels.items → length left ≡ length lent →
    at_marks Q (reverse left) ≡ at_marks R (reverse lent) → at_marks Q (reverse (with_items levels left).items) ≡ at_marks R (reverse levels.items)
marks_lent R Q levels lent left same many marks =
    ap (λ sets. at_marks Q (reverse sets)) (items-with_items levels left (many ∙ ap length same)) ∙ marks ∙ ap (λ sets. at_marks R (reverse sets)) same

-- a level is opened, with an empty set
pub marks_opened : (R : Rows) (levels : List BitStore) (x : BitStore) → bit_rows x ≡ no_starts → at_marks R (reverse (levels ++ x ∷ [])) ≡ R ∷ at_marks R (reverse levels)
marks_opened R levels x none =
    ap (at_marks R) (newest_last levels x)
    ∙ ap (λ (A : Rows). A ∷ at_marks A (reverse levels)) (ap (union R) none ∙ fun_ext (λ i. fun_ext (λ t. grind (arith, nat_tests))))

-- states with equal parts are equal
pub state_same :
    {A B : Rows} {U V : ℕ} {K L : List Rows} {a b : ℕ} → A ≡ B → U ≡ V → K ≡ L → a ≡ b →
    ◌≡◌ {A = State} (record { standing = A; ceiling = U; levels = K; stamp = a }) (record { standing = B; ceiling = V; levels = L; stamp = b })
state_same p q r s = λ i. record { standing = p i; ceiling = q i; levels = r i; stamp = s i }

-- what went out of R was noted: the tables at the marks are as they were
pub marks_kept :
    (R G Q H : Rows) (sets sets' : List BitStore) → G ≡ no_starts → Out R G Q H → ((T : Rows) → at_marks T sets' ≡ at_marks (union T H) sets) →
    at_marks Q sets' ≡ at_marks R sets
marks_kept R G Q H sets sets' none out noted =
    noted Q ∙ ap (λ (T : Rows). at_marks T sets) (out_back R G Q H (λ i t. ap (λ (T : Rows). T i t) none) out)

-- what was cut out of s was noted: the tables at the marks are as they were
pub marks_cut :
    {S : Type 0} (rows : S → Rows) (s : S) (c d : Cutting S) (sets sets' : List BitStore) → c.store.now ≡ s → bit_rows c.gone ≡ no_starts → Cuts rows c d →
    ((T : Rows) → at_marks T sets' ≡ at_marks (union T (bit_rows d.gone)) sets) → at_marks (rows d.store.now) sets' ≡ at_marks (rows s) sets
marks_cut rows s c d sets sets' same none cuts noted = marks_kept _ _ _ _ sets sets' none cuts.out noted ∙ ap (λ x. at_marks (rows x) sets) same
