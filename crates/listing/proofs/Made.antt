-- Each table has a listing, and it is short. Assumes nothing.
use Rattle.std.proofs.Common.{◌≡◌, ◌⊎◌, ℕ, zero, suc, ◌+◌, ◌-◌, ◌*◌, ◌^◌, ◌<◌, ◌≤◌, true, false, not, List, [], ◌∷◌, ◌++◌, length, get_or, decimal, sym, refl, ap, ◌∙◌, subst, inl, inr, ⊎_elim, arith, length-append}
use Rattle.std.proofs.lemmas.Bool.{cases_Bool, cases_eq, cases_lt, not-false, not-true}
use Rattle.std.proofs.lemmas.List.{length_push, get_or_push, get_or_append_left}
use Rattle.std.proofs.lemmas.Fmt.{length-decimal-le}
use Rattle.stores.specs.Sets.{Rows, Bounded}
use Rattle.stores.proofs.Firsts.{earliest_found}
use Rattle.listing.specs.declared.range.Range.{Range}
use Rattle.listing.specs.Placing.{HasRoom}
use Rattle.listing.specs.Ranges.{Ranges, TableRanges}
use Rattle.listing.specs.Texts.{range_text, ranges_text, row_line, row_lines, listing_text}
use Rattle.listing.specs.Lines.{TextOf}
use Rattle.listing.proofs.Lengths.{row_length, text_length}
use Rattle.listing.proofs.Rows.{leads_low, high_out, range_to}

module _ (R : Rows) (i : ℕ) (b : Bounded R) where
  -- there is a start from `from` on, or none
  some_start : (n from : ℕ) → 256 ≤ from + n → ((t : ℕ) → from ≤ t → R i t ≡ false) ⊎ ((t : ℕ) × (from ≤ t) × (R i t ≡ true))
  some_start zero from h = inl (λ t l. high_out R i b t (omega arith))
  some_start (suc n) from h =
      ⊎_elim
      (λ (on : R i from ≡ true). inr (from, omega arith, on))
      (λ (off : R i from ≡ false).
      ⊎_elim
      (λ (none : (t : ℕ) → suc from ≤ t → R i t ≡ false). inl (λ t l. grind (arith, cases_eq t from, off, none t)))
      (λ (some : (t : ℕ) × (suc from ≤ t) × (R i t ≡ true)). inr (some.0, (let l = some.1 in omega arith), some.2))
      (some_start n (suc from) (omega arith)))
      (cases_Bool (R i from))

  -- a row has its ranges
  pub ranges_made : (n from : ℕ) → 257 ≤ from + n → (rs : List Range) × Ranges (R i) from rs
  ranges_made zero from h = ([], λ t l. high_out R i b t (omega arith))
  ranges_made (suc n) from h =
      ⊎_elim
      (λ (none : (t : ℕ) → from ≤ t → R i t ≡ false). ([], none))
      (λ (some : (t : ℕ) × (from ≤ t) × (R i t ≡ true)).
      let (v, p, m) = earliest_found (R i) from some.0 some.1 some.2 in
      let l = (b i v p.held).1 in
      let (e, q, k) = earliest_found (λ t. not (R i t)) (v + 1) 256 (omega arith) (ap not (high_out R i b 256 (omega arith))) in
      let r = range_to (R i) from v e p (let a = q.reached in omega arith) (not-true (R i e) q.held) (λ t c d. not-false (R i t) (q.gap t c d)) in
      let (rs, on) = ranges_made n (e + 1) (let a = q.reached in let c = p.reached in omega arith) in
      let next : e + 1 ≡ e - 1 + 2 = let a = q.reached in omega arith in
      (record { first = v; last = e - 1 } ∷ rs, (r, subst (λ t. Ranges (R i) t rs) next on)))
      (some_start 256 from (omega arith))

  -- they are short
  pub ranges_long : (from : ℕ) (rs : List Range) → from ≤ 257 → Ranges (R i) from rs → length (ranges_text rs) + 4 * from ≤ 1028
  ranges_long from [] l h = omega arith
  ranges_long from (r ∷ rs) l (p, h) =
      let a = (b i r.first p.begins.held).1 in
      let c = leads_low R i from r b p in
      omega (
        arith,
        p.begins.reached,
        p.rises,
        ranges_long (r.last + 2) rs (omega arith) h,
        length-append (range_text r) (ranges_text rs),
        length-append (decimal r.first) (45 ∷ decimal r.last),
        length-decimal-le 3 r.first (omega arith) (omega arith) (omega arith),
        length-decimal-le 3 r.last (omega arith) (omega arith) (omega arith),
      )

-- the ranges of one row more
table_more : (R : Rows) (n : ℕ) (rss : List (List Range)) (rs : List Range) → TableRanges R n rss → Ranges (R n) 0 rs → TableRanges R (n + 1) (rss ++ rs ∷ [])
table_more R n rss rs t h = record {
  places = length_push rss rs ∙ ap (λ m. m + 1) t.places;
  here = λ i l.
      ⊎_elim
      (λ (m : i < n). subst (Ranges (R i) 0) (sym (get_or_append_left rss (rs ∷ []) [] i (omega (arith, t.places)))) (t.here i m))
      (λ (m : n ≤ i).
      let e : n ≡ i = omega arith in
      subst (λ k. Ranges (R k) 0 (get_or (rss ++ rs ∷ []) k [])) e (subst (Ranges (R n) 0) (sym (get_or_push rss rs [] n t.places)) h))
      (cases_lt i n);
}

module _ (R : Rows) (b : Bounded R) where
  -- each row of a table has its ranges
  table_made : (n : ℕ) → (rss : List (List Range)) × TableRanges R n rss
  table_made zero = ([], record { places = refl; here = λ i l. absurd (omega arith) })
  table_made (suc n) =
      let (rss, t) = table_made n in
      let (rs, h) = ranges_made R n b 257 0 (omega arith) in
      let on : n + 1 ≡ suc n = omega arith in
      (rss ++ rs ∷ [], subst (λ m. TableRanges R m (rss ++ rs ∷ [])) on (table_more R n rss rs t h))

  lines_long : (k : ℕ) (rss : List (List Range)) → ((i : ℕ) → i < length rss → length (ranges_text (get_or rss i [])) ≤ 1028) → k + length rss ≤ 24 → length (row_lines k rss) ≤ 1049 * length rss
  lines_long k [] h l = omega arith
  lines_long k (rs ∷ rss) h l =
      omega (
        arith,
        h 0 (omega arith),
        lines_long (k + 1) rss (λ i m. h (suc i) (omega arith)) (omega arith),
        length-append (row_line k rs) (row_lines (k + 1) rss),
        row_length k rs,
        length-decimal-le 20 k (omega arith) (omega arith) (omega arith),
      )

  -- a table has a listing, and it can be counted
  pub text_made : (f u n : ℕ) → f < 2 ^ 64 → u < 2 ^ 32 → n ≤ 24 → HasRoom (TextOf f u R n) 18446744073709551615
  text_made f u n p q l =
      let (rss, t) = table_made n in
      let lines = lines_long 0 rss (λ i m. let s = ranges_long R i b 0 (get_or rss i []) (omega arith) (t.here i (omega (arith, t.places))) in omega arith) (omega (arith, t.places)) in (
        listing_text f u rss,
        (rss, t, refl),
        omega (
          arith,
          lines,
          t.places,
          text_length f u rss,
          length-append (decimal f) (10 ∷ []),
          length-append (decimal u) (10 ∷ []),
          length-decimal-le 20 f (omega arith) (omega arith) (omega arith),
          length-decimal-le 20 u (omega arith) (omega arith) (omega arith),
        ),
      )
