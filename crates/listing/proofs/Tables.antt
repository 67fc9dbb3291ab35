-- Going through the rows of a table, to write their lines. Assumes nothing.
use Rattle.std.proofs.Common.{◌≡◌, ℕ, ◌+◌, ◌<◌, ◌≤◌, List, [], ◌++◌, length, get_or, drop, sym, refl, ap, ◌∙◌, subst, arith, length-append}
use Rattle.std.proofs.lemmas.List.{at_drop_more, at_drop_all}
use Rattle.stores.specs.Sets.{Rows}
use Rattle.listing.specs.declared.range.Range.{Range}
use Rattle.listing.specs.Placing.{HasRoom, IsTaken}
use Rattle.listing.specs.Ranges.{TableRanges}
use Rattle.listing.specs.Texts.{row_line, row_lines}
use Rattle.listing.specs.Lines.{LineOf, LinesOf}
use Rattle.listing.proofs.Unique.{table_ranges_same}

module _ {W : Type 0} (room : W → ℕ) (takes : W → List ℕ → W → Type 0) where
  -- the lines that are left, from number i on, have room; where they are taken, all are
  pub record Lining (R : Rows) (n : ℕ) (was is : W) (i : ℕ) : Type 0 where
    pub ranges : List (List Range)
    pub all : TableRanges R n ranges
    pub fits : length (row_lines i (drop i ranges)) ≤ room is
    pub on : (end : W) → takes is (row_lines i (drop i ranges)) end → takes was (row_lines 0 ranges) end

  pub lining_none : (R : Rows) (n : ℕ) (was : W) → HasRoom (LinesOf R n) (room was) → Lining R n was was 0
  lining_none R n was (text, (rss, t, e), fits) = record { ranges = rss; all = t; fits = omega (arith, ap length e); on = λ end k. k }

  module _ (R : Rows) (n : ℕ) (was is : W) (i : ℕ) (g : Lining R n was is i) where
    -- the line that comes next
    next_is : i < n → row_lines i (drop i g.ranges) ≡ row_line i (get_or g.ranges i []) ++ row_lines (i + 1) (drop (i + 1) g.ranges)
    next_is l = at_drop_more (row_lines i) g.ranges i [] (omega (arith, g.all.places))

    next_line : i < n → LineOf (R i) i (row_line i (get_or g.ranges i []))
    next_line l = (get_or g.ranges i [], g.all.here i l, refl)

    pub lining_room : i < n → HasRoom (LineOf (R i) i) (room is)
    lining_room l = (
      row_line i (get_or g.ranges i []),
      next_line l,
      omega (arith, g.fits, ap length (next_is l), length-append (row_line i (get_or g.ranges i [])) (row_lines (i + 1) (drop (i + 1) g.ranges))),
    )

    pub lining_more : ((s t u : W) (a b : List ℕ) → takes s a t → takes t b u → takes s (a ++ b) u) → ((s t : W) (a : List ℕ) → takes s a t → room s ≤ length a + room t) → (new : W) → i < n → IsTaken (LineOf (R i) i) (λ text. takes is text new) → Lining R n was new (i + 1)
    lining_more both rest new l w =
        let t = w _ (next_line l) in
        record {
          ranges = g.ranges;
          all = g.all;
          fits = omega (arith, g.fits, ap length (next_is l), length-append (row_line i (get_or g.ranges i [])) (row_lines (i + 1) (drop (i + 1) g.ranges)), rest is new _ t);
          on = λ end k. g.on end (subst (λ x. takes is x end) (sym (next_is l)) (both is new end _ _ t k));
        }

    pub lining_all : ((s : W) → takes s [] s) → n ≤ i → IsTaken (LinesOf R n) (λ text. takes was text is)
    lining_all nothing l text (rss, t, e) =
        let none = at_drop_all (row_lines i) g.ranges i (omega (arith, g.all.places)) in
        let all = g.on is (subst (λ x. takes is x is) (sym none) (nothing is)) in
        subst (λ x. takes was x is) (ap (row_lines 0) (table_ranges_same R n g.ranges rss g.all t) ∙ sym e) all
