-- Trees with one loose place: what a step up or down keeps, and that the first entry is least. Assumes nothing.
use Rattle.std.proofs.Common.{◌≡◌, ℕ, zero, suc, ◌-◌, ◌/◌, ◌<◌, Bool, true, false, ◌≢◌, sym, refl, ap, ◌∙◌, subst, inl, inr, arith}
use Rattle.std.proofs.lemmas.List.Edits.{Swapped}
use Rattle.std.proofs.lemmas.Bool.{cases_eq}
use Rattle.heap.specs.Trees.{Child}

-- the two laws of an order that a heap rests on
pub record Lawful {X : Type 0} (before : X → X → Bool) : Type 0 where
  pub asymmetric : (a b : X) → before a b ≡ true → before b a ≡ false
  pub chains : (a b c : X) → before b a ≡ false → before c b ≡ false → before c a ≡ false

module _ {X : Type 0} (before : X → X → Bool) where
  -- no place is before its parent
  abbrev pub Ordered : (ℕ → X) → ℕ → Type 0
  Ordered f n = (p i : ℕ) → Child n p i → before (f i) (f p) ≡ false

  -- the same of the pairs that `at` is not in; and no child of `at` is before the parent of `at`
  pub record Loose (f : ℕ → X) (n at : ℕ) : Type 0 where
    pub away : (p i : ℕ) → Child n p i → p ≢ at → i ≢ at → before (f i) (f p) ≡ false
    pub across : (p i : ℕ) → Child n p at → Child n at i → before (f i) (f p) ≡ false

  -- no child of `at` is before x
  abbrev pub Under : (ℕ → X) → ℕ → ℕ → X → Type 0
  Under f n at x = (i : ℕ) → Child n at i → before (f i) x ≡ false

  -- x is not before the parent of `at`
  abbrev pub Over : (ℕ → X) → ℕ → ℕ → X → Type 0
  Over f n at x = (p : ℕ) → Child n p at → before x (f p) ≡ false

  -- a place that fits both ways is loose no more
  pub fixed : (f : ℕ → X) (n at : ℕ) → Loose f n at → Under f n at (f at) → Over f n at (f at) → Ordered f n
  fixed f n at loose under over p i child = elim (cases_eq i at) [
    | inl e ↦ subst (λ (k : ℕ). before (f k) (f p) ≡ false) (sym e) (over p (subst (Child n p) e child))
    | inr ni ↦ elim (cases_eq p at) [
      | inl e ↦ subst (λ (k : ℕ). before (f i) (f k) ≡ false) (sym e) (under i (subst (λ k. Child n k i) e child))
      | inr np ↦ loose.away p i child np ni
    ]
  ]

  -- places of g that have their entries from f
  from : (f g : ℕ → X) (i p j q : ℕ) → g i ≡ f j → g p ≡ f q → before (f j) (f q) ≡ false → before (g i) (g p) ≡ false
  from f g i p j q a b h = (λ t. before (a t) (b t)) ∙ h

  module _ (law : Lawful before) where
    pub not_itself : (x : X) → before x x ≡ false
    not_itself x = go (before x x) (law.asymmetric x x)
      where
        go : (b : Bool) → (b ≡ true → b ≡ false) → b ≡ false
        go true h = h refl
        go false h = refl

    -- the entry at c is before its parent at p, and they change places
    module _ (f g : ℕ → X) (n p c : ℕ) (child : Child n p c) (swap : Swapped f g c p) (first : before (f c) (f p) ≡ true) where
      turned : before (f p) (f c) ≡ false
      turned = law.asymmetric (f c) (f p) first

      other : (i : ℕ) → i ≢ c → i ≢ p → g i ≡ f i
      other i nc np = swap.2 i nc np

      -- where c was loose, p is now
      module _ (loose : Loose f n c) where
        pub up_loose : Loose g n p
        up_loose = record { away = away; across = across }
          where
            away : (q i : ℕ) → Child n q i → q ≢ p → i ≢ p → before (g i) (g q) ≡ false
            away q i h nq ni =
                let same = other i (omega arith) ni in
                elim (cases_eq q c) [
                  | inl e ↦ from f g i q i p same (ap g e ∙ swap.0) (loose.across p i child (subst (λ k. Child n k i) e h))
                  | inr nc ↦ from f g i q i q same (other q nc nq) (loose.away q i h nc (omega arith))
                ]

            across : (q i : ℕ) → Child n q p → Child n p i → before (g i) (g q) ≡ false
            across q i k h =
                let up = loose.away q p k (omega arith) (omega arith) in
                let same = other q (omega arith) (omega arith) in
                elim (cases_eq i c) [
                  | inl e ↦ from f g i q p q (ap g e ∙ swap.0) same up
                  | inr nc ↦ from f g i q i q (other i nc (omega arith)) same (law.chains (f q) (f p) (f i) up (loose.away p i h (omega arith) nc))
                ]

        pub up_under : Under g n p (g p)
        up_under i h = elim (cases_eq i c) [
          | inl e ↦ from f g i p p c (ap g e ∙ swap.0) swap.1 turned
          | inr nc ↦ from f g i p i c (other i nc (omega arith)) swap.1 (law.chains (f c) (f p) (f i) turned (loose.away p i h (omega arith) nc))
        ]

      pub down_over : Over g n c (g c)
      down_over q k = let e : q ≡ p = omega arith in from f g c q p c swap.0 (ap g e ∙ swap.1) turned

      -- where p was loose, c is now, if no child of p is before it
      module _ (least : Under f n p (f c)) (loose : Loose f n p) where
        pub down_loose : Loose g n c
        down_loose = record { away = away; across = across }
          where
            away : (q i : ℕ) → Child n q i → q ≢ c → i ≢ c → before (g i) (g q) ≡ false
            away q i h nq ni = elim (cases_eq i p) [
              | inl e ↦ from f g i q c q (ap g e ∙ swap.1) (other q nq (omega arith)) (loose.across q c (subst (Child n q) e h) child)
              | inr np ↦ elim (cases_eq q p) [
                | inl e ↦ from f g i q i c (other i ni np) (ap g e ∙ swap.1) (least i (subst (λ k. Child n k i) e h))
                | inr far ↦ from f g i q i q (other i ni np) (other q nq far) (loose.away q i h far np)
              ]
            ]

            across : (q i : ℕ) → Child n q c → Child n c i → before (g i) (g q) ≡ false
            across q i k h =
                let e : q ≡ p = omega arith in
                from f g i q i c (other i (omega arith) (omega arith)) (ap g e ∙ swap.1) (loose.away c i h (omega arith) (omega arith))

    -- none is before the first
    pub root : (f : ℕ → X) (n : ℕ) → Ordered f n → (i : ℕ) → i < n → before (f i) (f 0) ≡ false
    root f n ordered i l = go (suc i) i (omega arith) l
      where
        go : (k i : ℕ) → i < k → i < n → before (f i) (f 0) ≡ false
        go zero i less l = absurd (omega arith)
        go (suc k) i less l = elim (cases_eq i 0) [
          | inl e ↦ subst (λ (j : ℕ). before (f j) (f 0) ≡ false) (sym e) (not_itself (f 0))
          | inr ne ↦ let p = (i - 1) / 2 in law.chains (f 0) (f p) (f i) (go k p (omega arith) (omega arith)) (ordered p i (omega arith, l, refl))
        ]
