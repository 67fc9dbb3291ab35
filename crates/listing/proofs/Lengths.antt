-- How long the parts of a listing are. Assumes nothing.
use Rattle.std.proofs.Common.{◌≡◌, ℕ, ◌+◌, List, [], ◌∷◌, ◌++◌, length, decimal, arith, length-append}
use Rattle.listing.specs.declared.range.Range.{Range}
use Rattle.listing.specs.Texts.{floor_line, ceiling_line, ranges_text, row_line, row_lines, listing_text}

pub row_length : (k : ℕ) (rs : List Range) → length (row_line k rs) ≡ length (decimal k) + length (ranges_text rs) + 1
row_length k rs = omega (arith, length-append (decimal k) (ranges_text rs ++ 10 ∷ []), length-append (ranges_text rs) (10 ∷ []))

pub text_length : (f u : ℕ) (rss : List (List Range)) → length (listing_text f u rss) ≡ length (floor_line f) + length (ceiling_line u) + length (row_lines 0 rss)
text_length f u rss = omega (arith, length-append (floor_line f) (ceiling_line u ++ row_lines 0 rss), length-append (ceiling_line u) (row_lines 0 rss))
