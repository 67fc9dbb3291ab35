-- Which text stands for the rows of a table. Assumes nothing.
use Rattle.std.specs.Prelude.{◌≡◌, ℕ, Bool, List}
use Rattle.stores.specs.Sets.{Rows}
use Rattle.listing.specs.declared.range.Range.{Range}
use Rattle.listing.specs.Ranges.{Ranges, TableRanges}
use Rattle.listing.specs.Texts.{ranges_text, row_line, row_lines, listing_text}

-- the text is the ranges of the row f
abbrev pub RangesOf : (ℕ → Bool) → List ℕ → Type 0
RangesOf f text = (rs : List Range) × Ranges f 0 rs × (text ≡ ranges_text rs)

-- the text is the line of the ticket k, which has the row f
abbrev pub LineOf : (ℕ → Bool) → ℕ → List ℕ → Type 0
LineOf f k text = (rs : List Range) × Ranges f 0 rs × (text ≡ row_line k rs)

-- the text is the lines of the tickets 0 to n - 1
abbrev pub LinesOf : Rows → ℕ → List ℕ → Type 0
LinesOf R n text = (rss : List (List Range)) × TableRanges R n rss × (text ≡ row_lines 0 rss)

-- the text is the floor f, the ceiling u, and the lines of the tickets 0 to n - 1
abbrev pub TextOf : ℕ → ℕ → Rows → ℕ → List ℕ → Type 0
TextOf f u R n text = (rss : List (List Range)) × TableRanges R n rss × (text ≡ listing_text f u rss)
