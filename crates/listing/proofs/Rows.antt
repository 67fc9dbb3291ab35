-- Going through the ranges of a row, to write them. Assumes nothing.
use Rattle.std.proofs.Common.{◌≡◌, ℕ, ◌+◌, ◌-◌, ◌<◌, ◌≤◌, Bool, true, false, List, [], ◌∷◌, ◌++◌, length, Some, None, Option, MatchOption, unwrap_or, sym, ap, ◌∙◌, subst, arith, length-append}
use Rattle.std.proofs.lemmas.Bool.{cases_Bool, cases_eq}
use Rattle.stores.specs.Sets.{Rows, Bounded, Earliest, First}
use Rattle.listing.specs.declared.range.Range.{Range}
use Rattle.listing.specs.Placing.{HasRoom, IsTaken}
use Rattle.listing.specs.Ranges.{Leads, Ranges}
use Rattle.listing.specs.Texts.{range_text, ranges_text}
use Rattle.listing.specs.Lines.{RangesOf}
use Rattle.listing.proofs.Unique.{leads_same, leads_none, ranges_same}

-- a range ends below 256
pub leads_low : (R : Rows) (i from : ℕ) (r : Range) → Bounded R → Leads (R i) from r → r.last < 256
leads_low R i from r b p = (b i r.last (p.unbroken r.last p.rises (omega arith))).1

-- nothing is in a row from 256 on
pub high_out : (R : Rows) (i : ℕ) → Bounded R → (t : ℕ) → 256 ≤ t → R i t ≡ false
high_out R i b t h = grind (arith, cases_Bool (R i t), b i t)

-- a range ends before the first later start that is out of the row
pub range_to : (f : ℕ → Bool) (from first n : ℕ) → Earliest f from first → first < n → f n ≡ false → ((t : ℕ) → first + 1 ≤ t → t < n → f t ≡ true) → Leads f from (record { first = first; last = n - 1 })
range_to f from first n e l off on = record {
  begins = e;
  rises = omega arith;
  unbroken = λ t p q. grind (arith, cases_eq t first, e.held, on t);
  ends = let s : n - 1 + 1 ≡ n = omega arith in ap f s ∙ off;
}

-- that start, where it is looked for up to 255
pub found_range : (R : Rows) (i : ℕ) → Bounded R → (from first : ℕ) → Earliest (R i) from first → (r : Option ℕ) → MatchOption r ((t : ℕ) → first + 1 ≤ t → t < 256 → R i t ≡ true) (λ n. (first + 1 ≤ n) × (n < 256) × (R i n ≡ false) × ((t : ℕ) → first + 1 ≤ t → t < n → R i t ≡ true)) → (1 ≤ unwrap_or r 256) × Leads (R i) from (record { first = first; last = unwrap_or r 256 - 1 })
found_range R i b from first e None h = let l = (b i first e.held).1 in (omega arith, range_to (R i) from first 256 e (omega arith) (high_out R i b 256 (omega arith)) h)
found_range R i b from first e (Some n) (l, m, off, on) = (omega arith, range_to (R i) from first n e (omega arith) off on)

-- the range that comes next is the first of those that are left
head_is : (f : ℕ → Bool) (from : ℕ) (rs : List Range) (r : Range) → Ranges f from rs → Leads f from r → (ss : List Range) × (rs ≡ r ∷ ss) × Ranges f (r.last + 2) ss
head_is f from [] r h p = absurd (leads_none f from r h p)
head_is f from (s ∷ ss) r h p =
    let e = leads_same f from s r h.0 p in
    (ss, ap (λ x. x ∷ ss) e, subst (λ x. Ranges f (x.last + 2) ss) e h.1)

module _ {W : Type 0} (room : W → ℕ) (takes : W → List ℕ → W → Type 0) where
  -- the ranges that are left, from `from` on, have room; where they are taken, the ranges of the row are
  pub record Going (f : ℕ → Bool) (was is : W) (from : ℕ) : Type 0 where
    pub left : List Range
    pub rest : Ranges f from left
    pub fits : length (ranges_text left) ≤ room is
    pub on : (end : W) → takes is (ranges_text left) end → IsTaken (RangesOf f) (λ text. takes was text end)
    pub low : from ≤ 257

  pub going_none : (f : ℕ → Bool) (was : W) → HasRoom (RangesOf f) (room was) → Going f was was 0
  going_none f was (text, (rs, h, e), fits) = record {
    left = rs;
    rest = h;
    fits = omega (arith, ap length e);
    on = λ end t other (ss, k, d). subst (λ x. takes was x end) (ap ranges_text (ranges_same f 0 rs ss h k) ∙ sym d) t;
    low = omega arith;
  }

  module _ (both : (s t u : W) (a b : List ℕ) → takes s a t → takes t b u → takes s (a ++ b) u) (less : (s t : W) (a : List ℕ) → takes s a t → room s ≤ length a + room t) (f : ℕ → Bool) (was is : W) (from : ℕ) (g : Going f was is from) where
    pub going_room : (r : Range) → Leads f from r → length (range_text r) ≤ room is
    going_room r p =
        let (ss, e, h) = head_is f from g.left r g.rest p in
        omega (arith, g.fits, ap (λ x. length (ranges_text x)) e, length-append (range_text r) (ranges_text ss))

    pub going_more : (r : Range) (new : W) → Leads f from r → r.last < 256 → takes is (range_text r) new → Going f was new (r.last + 2)
    going_more r new p low t =
        let (ss, e, h) = head_is f from g.left r g.rest p in
        record {
          left = ss;
          rest = h;
          fits = omega (arith, g.fits, ap (λ x. length (ranges_text x)) e, length-append (range_text r) (ranges_text ss), less is new (range_text r) t);
          on = λ end k. g.on end (subst (λ x. takes is (ranges_text x) end) (sym e) (both is new end (range_text r) (ranges_text ss) t k));
          low = omega arith;
        }

    pub going_all : ((s : W) → takes s [] s) → First f from None → IsTaken (RangesOf f) (λ text. takes was text is)
    going_all nothing none = g.on is (subst (λ x. takes is (ranges_text x) is) (sym (ranges_same f from g.left [] g.rest none)) (nothing is))
