-- The bytes of records tell the records. Assumes nothing.
use Rattle.std.proofs.Common.{◌≡◌, ℕ, ◌+◌, ◌/◌, ◌%◌, ◌⊎◌, List, [], ◌∷◌, ◌++◌, length, take, drop, sym, refl, ap, ◌∙◌, inl, inr, ⊎_elim, append_assoc, arith}
use Rattle.std.specs.List.{flat_map}
use Rattle.std.proofs.lemmas.List.{append_cancel_left}
use Rattle.std.proofs.Math.Seq.{take-append_seam, drop-append_seam}
use Rattle.tickets.specs.declared.terms.Terms.{Terms}
use Rattle.ticket_file.specs.Format.{Rec, ticket, ceiling, ban, bytes, header, file_of, Injective}

-- equal lists, cut at the same place
cut_alike : {X : Type 0} (a b x y : List X) → length a ≡ length b → a ++ x ≡ b ++ y → (a ≡ b) × (x ≡ y)
cut_alike a b x y l e = (sym (take-append_seam a x) ∙ (λ i. take (l i) (e i)) ∙ take-append_seam b y, sym (drop-append_seam a x) ∙ (λ i. drop (l i) (e i)) ∙ drop-append_seam b y)

two_bytes : (v w : ℕ) → v % 256 ≡ w % 256 → v / 256 ≡ w / 256 → v ≡ w
two_bytes v w low high = omega arith

four_bytes : (u v : ℕ) → u % 256 ≡ v % 256 → u / 256 % 256 ≡ v / 256 % 256 → u / 65536 % 256 ≡ v / 65536 % 256 → u / 16777216 ≡ v / 16777216 → u ≡ v
four_bytes u v e0 e1 e2 e3 = omega arith

same_terms : (s t : Terms) → s.first ≡ t.first → s.last ≡ t.last → s.length ≡ t.length → s.weight ≡ t.weight → s ≡ t
same_terms s t f l p w = λ i. record { first = f i; last = l i; length = p i; weight = w i }

-- no record's bytes begin another's
pub prefix_free : (r q : Rec) (x y : List ℕ) → bytes r ++ x ≡ bytes q ++ y → (r ≡ q) × (x ≡ y)
prefix_free (ticket t label) (ticket s label') x y e =
    let n : 5 + length label ≡ 5 + length label' = cc in
    let rest = cut_alike label label' x y (omega arith) (cc) in
    let g = rest.0 in
    let same : t ≡ s = same_terms t s (cc) (cc) (cc) (two_bytes t.weight s.weight (cc) (cc)) in
    (cc, rest.1)
prefix_free (ticket t label) (ceiling u) x y e = absurd (cc)
prefix_free (ticket t label) (ban i s) x y e = absurd (cc)
prefix_free (ceiling u) (ticket t label) x y e = absurd (cc)
prefix_free (ceiling u) (ceiling v) x y e = let w : u ≡ v = four_bytes u v (cc) (cc) (cc) (cc) in (cc, cc)
prefix_free (ceiling u) (ban i s) x y e = absurd (cc)
prefix_free (ban i s) (ticket t label) x y e = absurd (cc)
prefix_free (ban i s) (ceiling u) x y e = absurd (cc)
prefix_free (ban i s) (ban i' s') x y e = (cc, cc)

-- qs are the records rs and more; x are the bytes after rs, and y those after qs
abbrev pub Longer : List Rec → List Rec → List ℕ → List ℕ → Type 0
Longer rs qs x y = (more : List Rec) × (qs ≡ rs ++ more) × (x ≡ flat_map bytes more ++ y)

-- of two lists of records at the front of the same bytes, one begins the other
pub same_start : (rs qs : List Rec) (x y : List ℕ) → flat_map bytes rs ++ x ≡ flat_map bytes qs ++ y → Longer rs qs x y ⊎ Longer qs rs y x
same_start [] qs x y e = inl (qs, refl, e)
same_start (r ∷ rs) [] x y e = inr (r ∷ rs, refl, sym e)
same_start (r ∷ rs) (q ∷ qs) x y e =
    let s = prefix_free r q (flat_map bytes rs ++ x) (flat_map bytes qs ++ y) (sym (append_assoc (bytes r) (flat_map bytes rs) x) ∙ e ∙ append_assoc (bytes q) (flat_map bytes qs) y) in
    let same = s.0 in
    ⊎_elim
    (λ h. let g = h.1 in inl (h.0, cc, h.2))
    (λ h. let g = h.1 in inr (h.0, cc, h.2))
    (same_start rs qs x y s.1)

same_all : (rs qs : List Rec) → flat_map bytes rs ≡ flat_map bytes qs → rs ≡ qs
same_all [] [] e = refl
same_all [] (q ∷ qs) e = absurd (omega (arith, ap length e))
same_all (r ∷ rs) [] e = absurd (omega (arith, ap length e))
same_all (r ∷ rs) (q ∷ qs) e =
    let s = prefix_free r q (flat_map bytes rs) (flat_map bytes qs) e in
    let same = s.0 in
    let rest = same_all rs qs s.1 in
    cc

pub injective : Injective
unfolding file_of
injective rs qs e = same_all rs qs (append_cancel_left header _ _ e)
