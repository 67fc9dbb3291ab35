-- The text of a listing. Assumes nothing.
use Rattle.std.specs.Prelude.{ℕ, ◌+◌, List, [], ◌∷◌, ◌++◌, codes, decimal}
use Rattle.std.specs.List.{flat_map}
use Rattle.listing.specs.declared.range.Range.{Range}

-- the line of a number, after a word
abbrev pub line : List ℕ → ℕ → List ℕ
line word n = word ++ (decimal n ++ 10 ∷ [])

-- the line of the floor f
abbrev pub floor_line : ℕ → List ℕ
floor_line f = line (codes "floor ") f

-- the line of the ceiling u
abbrev pub ceiling_line : ℕ → List ℕ
ceiling_line u = line (codes "ceiling ") u

-- a range: a space, its first start, a hyphen and its last start
abbrev pub range_text : Range → List ℕ
range_text r = codes " " ++ (decimal r.first ++ (codes "-" ++ decimal r.last))

-- the ranges of a row, one after the other
abbrev pub ranges_text : List Range → List ℕ
ranges_text rs = flat_map range_text rs

-- the line of the ticket k: its number, and the ranges of its row
abbrev pub row_line : ℕ → List Range → List ℕ
row_line k rs = decimal k ++ (ranges_text rs ++ 10 ∷ [])

-- the lines of the tickets from number k on
abbrev pub row_lines : ℕ → List (List Range) → List ℕ
row_lines k [] = []
row_lines k (rs ∷ rss) = row_line k rs ++ row_lines (k + 1) rss

-- the whole text: the floor, the ceiling, and a line for each ticket
abbrev pub listing_text : ℕ → ℕ → List (List Range) → List ℕ
listing_text f u rss = floor_line f ++ (ceiling_line u ++ row_lines 0 rss)
