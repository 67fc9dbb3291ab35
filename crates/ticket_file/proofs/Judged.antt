-- What a judge of contents makes of the records that were read. Assumes nothing.
use Rattle.std.proofs.Common.{◌≡◌, ℕ, zero, suc, ◌+◌, ◌<◌, ◌⊎◌, List, [], ◌∷◌, ◌++◌, map, length, get_or, take, drop, sym, refl, ap, ◌∙◌, subst, inl, inr, ⊎_elim, append_assoc, arith, length-append}
use Rattle.std.specs.List.{flat_map}
use Rattle.std.proofs.lemmas.List.{take_at, drop_at, length-take-le}
use Rattle.std.proofs.lemmas.Grind.{flat_map-append}
use Rattle.tickets.specs.Refusals.{Clear}
use Rattle.ticket_file.specs.declared.refusal.FileRefusal.{FileRefusal}
use Rattle.ticket_file.specs.declared.refusal.FileRefusal.TheVariants.{TooLong, NotATicketFile, OtherVersion, PastEnd, UnknownKind, BodyLength, OutOfOrder}
use Rattle.ticket_file.specs.declared.record.Placed.{Placed}
use Rattle.ticket_file.specs.Format.{Rec, ticket, ceiling, ban, kind, bytes, header, file_of, Begins, kinds}
use Rattle.ticket_file.specs.Faults.{Judge, no_judge, Taken, Upto, Lies, PassesEnd, Unknown, Misfit, Disordered, After, Reason, form, contents, fault, Faulty}
use Rattle.ticket_file.specs.Readings.{plain, spot, spots, seen}
use Rattle.ticket_file.proofs.Unique.{injective}
use Rattle.ticket_file.proofs.Verdicts.{parts, all_mid, all_front, begins_mid, begins_front, form_low}

-- one more at the end: what stands in the list stands before it, or is it
split_last : (xs before after : List Rec) (x y : Rec) → xs ++ x ∷ [] ≡ before ++ y ∷ after → ((more : List Rec) × (xs ≡ before ++ y ∷ more)) ⊎ ((before ≡ xs) × (y ≡ x))
split_last [] [] after x y e = inr (refl, cc)
split_last [] (b ∷ before) after x y e = absurd (omega (arith, ap length e, length-append before (y ∷ after)))
split_last (a ∷ xs) [] after x y e = inl (xs, cc)
split_last (a ∷ xs) (b ∷ before) after x y e =
    let same : a ≡ b = cc in
    ⊎_elim (λ h. let g = h.1 in inl (h.0, cc)) (λ h. let g = h.0 in inr (cc, h.1)) (split_last xs before after x y (cc))

-- the judge takes one record more
pub takes_more : {E : Type 0} (j : Judge E) (rs : List Rec) (r : Rec) → Taken j rs → Clear j (rs, r) → Taken j (rs ++ r ∷ [])
takes_more j rs r t clear before after q same e m =
    ⊎_elim (λ h. t before h.0 q h.1 e m) (λ h. clear e (subst (λ x. (j e).meets x) (λ i. (h.0 i, h.1 i)) m)) (split_last rs before after r q same)

-- a record among those that were read: those before it lead up to it, and it comes in order
module _ (file : List ℕ) (q : ℕ) (before after : List Rec) (r : Rec) (u : Upto no_judge file q (before ++ r ∷ after)) where
  rest : List ℕ
  rest = flat_map bytes after ++ drop q file

  whole : file ≡ file_of before ++ (bytes r ++ rest)
  unfolding file_of rest
  whole =
      parts file q (before ++ r ∷ after) u.is ∙ ap (λ l. header ++ (l ++ drop q file)) (flat_map-append bytes before (r ∷ after)) ∙ ap (λ l. header ++ l) (append_assoc (flat_map bytes before) (bytes r ++ flat_map bytes after) (drop q file)) ∙ ap (λ l. header ++ (flat_map bytes before ++ l)) (append_assoc (bytes r) (flat_map bytes after) (drop q file))

  pub leads_up : Upto no_judge file (length (file_of before)) before
  leads_up = record {
    small = u.small;
    within = omega (arith, ap length whole, length-append (file_of before) (bytes r ++ rest));
    is = ap (take (length (file_of before))) whole ∙ take_at (file_of before) (bytes r ++ rest) _ refl;
    fit = all_front before (r ∷ after) u.fit;
    begins = begins_front before (r ∷ after) u.begins;
    taken = λ _ _ _ _ e _. absurd e;
  }

  pub stands : Lies file (length (file_of before)) r
  stands = record {
    rest = rest;
    is = ap (drop (length (file_of before))) whole ∙ drop_at (file_of before) (bytes r ++ rest) _ refl;
    fit = all_mid before after r u.fit;
  }

  pub comes : Begins (kinds before ++ kind r ∷ [])
  comes = begins_mid before after r u.begins

-- what is wrong with the form for one judge is so for another that takes the records before it
across : {D E : Type 0} (i : Judge D) (j : Judge E) (file : List ℕ) (p : ℕ) → ((Ill : List ℕ → ℕ → List Rec → Type 0) → After i Ill (file, p) → After j Ill (file, p)) → (f : FileRefusal) → (fault i (form f)).meets (file, p) → (fault j (form f)).meets (file, p)
across i j file p move TooLong m = m
across i j file p move NotATicketFile m = m
across i j file p move OtherVersion m = m
across i j file p move PastEnd m = move PassesEnd m
across i j file p move UnknownKind m = move Unknown m
across i j file p move BodyLength m = move Misfit m
across i j file p move OutOfOrder m = move Disordered m

module _ {E : Type 0} (j : Judge E) where
  pub judged : (file : List ℕ) (p : ℕ) (rs : List Rec) → Upto no_judge file p rs → Taken j rs → Upto j file p rs
  judged file p rs u t = record { small = u.small; within = u.within; is = u.is; fit = u.fit; begins = u.begins; taken = t }

  unjudged : (Ill : List ℕ → ℕ → List Rec → Type 0) (file : List ℕ) (p : ℕ) → After j Ill (file, p) → After no_judge Ill (file, p)
  unjudged Ill file p (rs, u, b) = (rs, record { small = u.small; within = u.within; is = u.is; fit = u.fit; begins = u.begins; taken = λ _ _ _ _ e _. absurd e }, b)

  module _ (file : List ℕ) (p : ℕ) (rs : List Rec) (front : ((p < 5) × (rs ≡ [])) ⊎ Upto no_judge file p rs) (t : Taken j rs) where
    -- the records that lead up to p are the ones that the judge takes
    rejudged : (Ill : List ℕ → ℕ → List Rec → Type 0) → After no_judge Ill (file, p) → After j Ill (file, p)
    unfolding file_of
    rejudged Ill (qs, u, b) =
        ⊎_elim
        (λ h. absurd (omega (arith, h.0, ap length u.is, length-take-le p file u.within)))
        (λ v.
        let same : rs ≡ qs = injective rs qs (sym v.is ∙ u.is) in
        (qs, judged file p qs u (subst (Taken j) same t), b))
        front

    -- where the judge takes all records before it, the fault of the form is the file's
    pub form_fault : ((e : E) → 7 < (j e).number) → (f : FileRefusal) → Faulty no_judge file (form f) p → Faulty j file (form f) p
    form_fault later f b = record { meets = across no_judge j file p rejudged f b.meets; first = lower }
      where
        same_number : (g : FileRefusal) → (fault j (form g)).number ≡ (fault no_judge (form g)).number
        same_number TooLong = refl
        same_number NotATicketFile = refl
        same_number OtherVersion = refl
        same_number PastEnd = refl
        same_number UnknownKind = refl
        same_number BodyLength = refl
        same_number OutOfOrder = refl

        lower : (v : Reason E) (q : ℕ) → (fault j v).number < (fault j (form f)).number → (fault j v).meets (file, q) → ⊥
        lower (form g) q lt m = b.first (form g) q (omega (arith, same_number g, same_number f)) (across j no_judge file q (λ Ill. unjudged Ill file q) g m)
        lower (contents e) q lt m = omega (arith, later e, form_low j f)

rec_of_spot : (p : ℕ) (r : Rec) → (spot p r).rec ≡ r
rec_of_spot p (ticket t label) = refl
rec_of_spot p (ceiling u) = refl
rec_of_spot p (ban i s) = refl

place_of_spot : (p : ℕ) (r : Rec) → (spot p r).place ≡ p
place_of_spot p (ticket t label) = refl
place_of_spot p (ceiling u) = refl
place_of_spot p (ban i s) = refl

-- the records that are handed out are those of the file
pub handed_all : (p : ℕ) (xs : List Placed) (rs : List Rec) → map seen xs ≡ spots p rs → map (λ x. plain x.record) xs ≡ rs
handed_all p [] [] e = refl
handed_all p [] (r ∷ rs) e = absurd (omega (arith, ap length e))
handed_all p (x ∷ xs) [] e = absurd (omega (arith, ap length e))
handed_all p (x ∷ xs) (r ∷ rs) e =
    let one : seen x ≡ spot p r = cc in
    let rest = handed_all (p + length (bytes r)) xs rs (cc) in
    (λ i. (ap (λ s. s.rec) one ∙ rec_of_spot p r) i ∷ rest i)

-- each stands at its place
pub handed_at : (p : ℕ) (xs : List Placed) (rs : List Rec) (k : ℕ) (d : Placed) → map seen xs ≡ spots p rs → k < length xs → (get_or xs k d).place ≡ p + length (flat_map bytes (take k rs))
handed_at p [] rs k d e lt = absurd (omega arith)
handed_at p (x ∷ xs) [] k d e lt = absurd (omega (arith, ap length e))
handed_at p (x ∷ xs) (r ∷ rs) zero d e lt =
    let one : seen x ≡ spot p r = cc in
    ap (λ s. s.place) one ∙ place_of_spot p r ∙ omega arith
handed_at p (x ∷ xs) (r ∷ rs) (suc k) d e lt =
    handed_at (p + length (bytes r)) xs rs k d (cc) (omega arith) ∙ omega (arith, length-append (bytes r) (flat_map bytes (take k rs)))
