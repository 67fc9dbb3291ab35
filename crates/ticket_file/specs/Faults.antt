-- What is wrong with a file, and where. Assumes nothing.
use Rattle.std.specs.Prelude.{◌≡◌, ℕ, ◌+◌, ◌<◌, ◌≤◌, ◌⊎◌, List, [], ◌∷◌, ◌++◌, length, take, drop, ◌≢◌, slice_index}
use Rattle.std.specs.List.{AllByRecursion}
use Rattle.tickets.specs.Refusals.{Meaning, Clear}
use Rattle.ticket_file.specs.declared.refusal.FileRefusal.{FileRefusal}
use Rattle.ticket_file.specs.declared.refusal.FileRefusal.TheVariants.{TooLong, NotATicketFile, OtherVersion, PastEnd, UnknownKind, BodyLength, OutOfOrder}
use Rattle.ticket_file.specs.Format.{Rec, kind, bytes, Fit, file_of, Whole, Begins, kinds}

-- a judge of contents: for each of its refusals the number, and which records it refuses after which others
abbrev pub Judge : Type 0 → Type 1
Judge E = E → Meaning (List Rec × Rec)

-- the judge that refuses nothing
abbrev pub no_judge : Judge ⊥
no_judge e = absurd e

-- the judge takes each of the records, after those before it
abbrev pub Taken : {E : Type 0} → Judge E → List Rec → Type 0
Taken j rs = (before after : List Rec) (r : Rec) → rs ≡ before ++ r ∷ after → Clear j (before, r)

-- the file is short enough, its first p bytes are the header and the records rs, in order, and the judge takes them
pub record Upto {E : Type 0} (j : Judge E) (file : List ℕ) (p : ℕ) (rs : List Rec) : Type 0 where
  pub small : length file ≤ 32768
  pub within : p ≤ length file
  pub is : take p file ≡ file_of rs
  pub fit : AllByRecursion Fit rs
  pub begins : Begins (kinds rs)
  pub taken : Taken j rs

-- the record r stands whole at the place p
pub record Lies (file : List ℕ) (p : ℕ) (r : Rec) : Type 0 where
  pub rest : List ℕ
  pub is : drop p file ≡ bytes r ++ rest
  pub fit : Fit r

-- a record at p passes the end of the file
abbrev pub PassesEnd : List ℕ → ℕ → List Rec → Type 0
PassesEnd file p rs = (p < length file) × (length file < p + 2 + slice_index file (p + 1))

-- no record has the kind that stands at p
abbrev pub Unknown : List ℕ → ℕ → List Rec → Type 0
Unknown file p rs = (p < length file) × ((r : Rec) → kind r ≢ slice_index file p)

-- no record of the kind at p has a body as long as the next byte says
abbrev pub Misfit : List ℕ → ℕ → List Rec → Type 0
Misfit file p rs = (p < length file) × ((r : Rec) → Fit r → kind r ≡ slice_index file p → length (bytes r) ≢ 2 + slice_index file (p + 1))

-- the kind at p cannot come after rs, or the file ends at p and rs are not the records of a whole file
abbrev pub Disordered : List ℕ → ℕ → List Rec → Type 0
Disordered file p rs = ((p < length file) × (Begins (kinds rs ++ slice_index file p ∷ []) → ⊥)) ⊎ ((p ≡ length file) × (Whole (kinds rs) → ⊥))

-- the judge refuses the record at p
abbrev pub Refused : {E : Type 0} → Judge E → E → List ℕ → ℕ → List Rec → Type 0
Refused j e file p rs = (r : Rec) × Lies file p r × (j e).meets (rs, r)

-- after some records, with which nothing is wrong, this is wrong
abbrev pub After : {E : Type 0} → Judge E → (List ℕ → ℕ → List Rec → Type 0) → List ℕ × ℕ → Type 0
After j Ill (file, p) = (rs : List Rec) × Upto j file p rs × Ill file p rs

-- why a file is refused: for its form, or for a record's contents
pub data Reason (E : Type 0) : Type 0 where
  form : FileRefusal → Reason E
  contents : E → Reason E

-- each reason: its number, and the files with the places that meet it
abbrev pub fault : {E : Type 0} → Judge E → Reason E → Meaning (List ℕ × ℕ)
fault j (form TooLong) = record { number = 1; meets = λ (file, p). (p ≡ 0) × (32768 < length file) }
fault j (form NotATicketFile) =
    record { number = 2; meets = λ (file, p). (p ≡ 0) × ((length file < 5) ⊎ (take 3 file ≢ 82 ∷ 80 ∷ 81 ∷ [])) }
fault j (form OtherVersion) = record { number = 3; meets = λ (file, p). (p ≡ 3) × (take 2 (drop 3 file) ≢ 1 ∷ 0 ∷ []) }
fault j (form PastEnd) = record { number = 4; meets = After j PassesEnd }
fault j (form UnknownKind) = record { number = 5; meets = After j Unknown }
fault j (form BodyLength) = record { number = 6; meets = After j Misfit }
fault j (form OutOfOrder) = record { number = 7; meets = After j Disordered }
fault j (contents e) = record { number = (j e).number; meets = After j (Refused j e) }

-- the fault of a file: a reason and a place that it meets, where none with a lower number is met anywhere
pub record Faulty {E : Type 0} (j : Judge E) (file : List ℕ) (w : Reason E) (p : ℕ) : Type 0 where
  pub meets : (fault j w).meets (file, p)
  pub first : (v : Reason E) (q : ℕ) → (fault j v).number < (fault j w).number → (fault j v).meets (file, q) → ⊥
