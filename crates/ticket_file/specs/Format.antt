-- What a ticket file is: a header, then the bytes of a list of records. Assumes nothing.
use Rattle.std.specs.Prelude.{◌≡◌, ℕ, ◌/◌, ◌%◌, ◌≤◌, List, [], ◌∷◌, ◌++◌, map, length, replicate}
use Rattle.std.specs.List.{flat_map, AllByRecursion}
use Rattle.tickets.specs.declared.terms.Terms.{Terms}

-- a record: a ticket with its label, the ceiling, or a ticket and a start to ban
pub data Rec : Type 0 where
  ticket : Terms → List ℕ → Rec
  ceiling : ℕ → Rec
  ban : ℕ → ℕ → Rec

-- the kind of a record: the letters T, C and B
abbrev pub kind : Rec → ℕ
kind (ticket t label) = 84
kind (ceiling u) = 67
kind (ban i s) = 66

-- the body of a record; numbers have the low byte first
abbrev pub body : Rec → List ℕ
body (ticket t label) = t.first ∷ t.last ∷ t.length ∷ t.weight % 256 ∷ t.weight / 256 ∷ label
body (ceiling u) = u % 256 ∷ u / 256 % 256 ∷ u / 65536 % 256 ∷ u / 16777216 ∷ []
body (ban i s) = i ∷ s ∷ []

-- a record's bytes: its kind, the length of its body, its body
abbrev pub bytes : Rec → List ℕ
bytes r = kind r ∷ length (body r) ∷ body r

-- a label has at most 16 bytes
abbrev pub Fit : Rec → Type 0
Fit (ticket t label) = length label ≤ 16
Fit (ceiling u) = Unit {0}
Fit (ban i s) = Unit {0}

-- the letters RPQ and the version 1
abbrev pub header : List ℕ
header = 82 ∷ 80 ∷ 81 ∷ 1 ∷ 0 ∷ []

-- the bytes of a file with these records
unfoldable pub file_of : List Rec → List ℕ
file_of rs = header ++ flat_map bytes rs

-- the kinds of a file with m tickets, the ceiling and n bans
abbrev pub order : ℕ → ℕ → List ℕ
order m n = replicate m 84 ++ 67 ∷ replicate n 66

-- ks are the kinds of some whole file
abbrev pub Whole : List ℕ → Type 0
Whole ks = (m : ℕ) × (n : ℕ) × (ks ≡ order m n)

-- ks are the first kinds of some whole file
abbrev pub Begins : List ℕ → Type 0
Begins ks = (more : List ℕ) × Whole (ks ++ more)

abbrev pub kinds : List Rec → List ℕ
kinds rs = map kind rs

-- the file holds the records rs, and nothing else
pub record Holds (file : List ℕ) (rs : List Rec) : Type 0 where
  pub small : length file ≤ 32768
  pub is : file ≡ file_of rs
  pub fit : AllByRecursion Fit rs
  pub whole : Whole (kinds rs)

-- no two lists of records have the same bytes
abbrev pub Injective : Type 0
Injective = (rs qs : List Rec) → file_of rs ≡ file_of qs → rs ≡ qs
