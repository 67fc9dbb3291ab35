-- A file has one verdict, whoever judges the contents: its records, or one fault. Assumes nothing.
use Rattle.std.proofs.Common.{◌≡◌, ℕ, ◌+◌, ◌-◌, ◌<◌, ◌≤◌, cond, eqb, ◌⊎◌, List, [], ◌∷◌, ◌++◌, length, get_or, take, drop, sym, refl, ap, ◌∙◌, subst, inl, inr, ⊎_elim, append_assoc, append-nil, arith, length-append, length-drop, take-append-drop}
use mathlib.Core.List.{map-append}
use Rattle.std.specs.List.{flat_map, AllByRecursion}
use Rattle.std.proofs.lemmas.List.{append_cancel_left, get_or-drop, take_all, drop_all, length-take-le}
use Rattle.std.proofs.lemmas.Bool.{cases_order}
use Rattle.tickets.specs.Refusals.{Answers}
use Rattle.ticket_file.specs.declared.refusal.FileRefusal.{FileRefusal}
use Rattle.ticket_file.specs.declared.refusal.FileRefusal.TheVariants.{TooLong, NotATicketFile, OtherVersion, PastEnd, UnknownKind, BodyLength, OutOfOrder}
use Rattle.ticket_file.specs.Format.{Rec, kind, body, bytes, Fit, header, file_of, Whole, Begins, kinds, Holds}
use Rattle.ticket_file.specs.Faults.{Judge, Taken, Upto, Lies, PassesEnd, Unknown, Misfit, Disordered, Refused, After, Reason, form, contents, fault, Faulty}
use Rattle.ticket_file.proofs.Unique.{prefix_free, Longer, same_start}

-- the file in two parts
pub parts : (file : List ℕ) (p : ℕ) (rs : List Rec) → take p file ≡ file_of rs → file ≡ header ++ (flat_map bytes rs ++ drop p file)
unfolding file_of
parts file p rs is = sym (take-append-drop p file) ∙ ap (λ l. l ++ drop p file) is ∙ append_assoc header (flat_map bytes rs) (drop p file)

pub place_is : (file : List ℕ) (p : ℕ) (rs : List Rec) → p ≤ length file → take p file ≡ file_of rs → p ≡ length (file_of rs)
place_is file p rs within is = sym (length-take-le p file within) ∙ ap length is

-- where a whole record stands
module _ (file : List ℕ) (p : ℕ) (r : Rec) (h : Lies file p r) where
  pub first_is : get_or file p 0 ≡ kind r
  first_is = ap (λ i. get_or file i 0) (omega arith) ∙ sym (get_or-drop p file 0 0) ∙ ap (λ l. get_or l 0 0) h.is

  pub second_is : get_or file (p + 1) 0 ≡ length (body r)
  second_is = sym (get_or-drop p file 1 0) ∙ ap (λ l. get_or l 1 0) h.is

  pub long_is : length file - p ≡ 2 + length (body r) + length h.rest
  long_is = sym (length-drop p file) ∙ ap length h.is ∙ omega (arith, length-append (body r) h.rest)

same_record : (file : List ℕ) (p : ℕ) (r q : Rec) → Lies file p r → Lies file p q → q ≡ r
same_record file p r q h k = sym (prefix_free r q h.rest k.rest (sym h.is ∙ k.is)).0

pub all_mid : (rs more : List Rec) (r : Rec) → AllByRecursion Fit (rs ++ r ∷ more) → Fit r
all_mid [] more r h = h.0
all_mid (x ∷ rs) more r h = all_mid rs more r h.1

pub all_front : (rs more : List Rec) → AllByRecursion Fit (rs ++ more) → AllByRecursion Fit rs
all_front [] more h = tt
all_front (x ∷ rs) more h = (h.0, all_front rs more h.1)

pub begins_mid : (rs more : List Rec) (r : Rec) → Begins (kinds (rs ++ r ∷ more)) → Begins (kinds rs ++ kind r ∷ [])
begins_mid rs more r (ks, (m, n, e)) =
    (kinds more ++ ks, (m, n, append_assoc (kinds rs) (kind r ∷ []) (kinds more ++ ks) ∙ sym (append_assoc (kinds rs) (kind r ∷ kinds more) ks) ∙ ap (λ l. l ++ ks) (sym (map-append kind rs (r ∷ more))) ∙ e))

pub begins_front : (rs more : List Rec) → Begins (kinds (rs ++ more)) → Begins (kinds rs)
begins_front rs more (ks, (m, n, e)) = (kinds more ++ ks, (m, n, sym (append_assoc (kinds rs) (kinds more) ks) ∙ ap (λ l. l ++ ks) (sym (map-append kind rs more)) ∙ e))

pub form_low : {E : Type 0} (j : Judge E) (f : FileRefusal) → (fault j (form f)).number ≤ 7
form_low j TooLong = omega arith
form_low j NotATicketFile = omega arith
form_low j OtherVersion = omega arith
form_low j PastEnd = omega arith
form_low j UnknownKind = omega arith
form_low j BodyLength = omega arith
form_low j OutOfOrder = omega arith

-- the numbers of the judge come after those of a file's form
module _ {E : Type 0} (j : Judge E) (later : (e : E) → 7 < (j e).number) where
  -- what is wrong after rs; what is wrong with the header is not
  abbrev pub Ill : Reason E → List ℕ → ℕ → List Rec → Type 0
  Ill (form TooLong) file p rs = ⊥
  Ill (form NotATicketFile) file p rs = ⊥
  Ill (form OtherVersion) file p rs = ⊥
  Ill (form PastEnd) file p rs = PassesEnd file p rs
  Ill (form UnknownKind) file p rs = Unknown file p rs
  Ill (form BodyLength) file p rs = Misfit file p rs
  Ill (form OutOfOrder) file p rs = Disordered file p rs
  Ill (contents e) file p rs = Refused j e file p rs

  -- a fault is in the header or after some records
  split : (file : List ℕ) (w : Reason E) (p : ℕ) → (fault j w).meets (file, p) → ((fault j w).number < 4) ⊎ After j (Ill w) (file, p)
  split file (form TooLong) p m = inl (omega arith)
  split file (form NotATicketFile) p m = inl (omega arith)
  split file (form OtherVersion) p m = inl (omega arith)
  split file (form PastEnd) p m = inr m
  split file (form UnknownKind) p m = inr m
  split file (form BodyLength) p m = inr m
  split file (form OutOfOrder) p m = inr m
  split file (contents e) p m = inr m

  here : (file : List ℕ) (p : ℕ) (rs : List Rec) → Upto j file p rs → (w : Reason E) → Ill w file p rs → (fault j w).meets (file, p)
  here file p rs u (form TooLong) b = absurd b
  here file p rs u (form NotATicketFile) b = absurd b
  here file p rs u (form OtherVersion) b = absurd b
  here file p rs u (form PastEnd) b = (rs, u, b)
  here file p rs u (form UnknownKind) b = (rs, u, b)
  here file p rs u (form BodyLength) b = (rs, u, b)
  here file p rs u (form OutOfOrder) b = (rs, u, b)
  here file p rs u (contents e) b = (rs, u, b)

  -- nothing is wrong with the header
  headed : (file rest : List ℕ) → length file ≤ 32768 → file ≡ header ++ rest → (w : Reason E) (p : ℕ) → (fault j w).number < 4 → (fault j w).meets (file, p) → ⊥
  headed file rest small e (form TooLong) p lt m = omega (arith, m.1)
  headed file rest small e (form NotATicketFile) p lt m = ⊎_elim (λ h. omega (arith, ap length e)) (λ h. h (ap (take 3) e)) m.1
  headed file rest small e (form OtherVersion) p lt m = m.1 (ap (λ l. take 2 (drop 3 l)) e)
  headed file rest small e (form PastEnd) p lt m = omega arith
  headed file rest small e (form UnknownKind) p lt m = omega arith
  headed file rest small e (form BodyLength) p lt m = omega arith
  headed file rest small e (form OutOfOrder) p lt m = omega arith
  headed file rest small e (contents c) p lt m = omega (arith, later c)

  module _ (file : List ℕ) (p : ℕ) (rs : List Rec) (r : Rec) (h : Lies file p r) where
    -- nothing below the order is wrong with a whole record
    pub whole_record : (w : Reason E) → (fault j w).number < 7 → Ill w file p rs → ⊥
    whole_record (form TooLong) lt b = b
    whole_record (form NotATicketFile) lt b = b
    whole_record (form OtherVersion) lt b = b
    whole_record (form PastEnd) lt b = omega (arith, second_is file p r h, long_is file p r h)
    whole_record (form UnknownKind) lt b = b.1 r (sym (first_is file p r h))
    whole_record (form BodyLength) lt b = b.1 r h.fit (sym (first_is file p r h)) (omega (arith, second_is file p r h))
    whole_record (form OutOfOrder) lt b = omega arith
    whole_record (contents e) lt b = omega (arith, later e)

    in_order : Begins (kinds rs ++ kind r ∷ []) → Disordered file p rs → ⊥
    in_order o b = ⊎_elim (λ x. x.1 (subst (λ k. Begins (kinds rs ++ k ∷ [])) (sym (first_is file p r h)) o)) (λ x. omega (arith, long_is file p r h, x.0)) b

    -- nothing of form is wrong with a whole record that comes in order, and the contents are judged
    placed_well : Begins (kinds rs ++ kind r ∷ []) → (w : Reason E) → ((e : E) → (fault j (contents e)).number ≡ (fault j w).number → (j e).meets (rs, r) → ⊥) → Ill w file p rs → ⊥
    placed_well o (form TooLong) c b = b
    placed_well o (form NotATicketFile) c b = b
    placed_well o (form OtherVersion) c b = b
    placed_well o (form PastEnd) c b = whole_record (form PastEnd) (omega arith) b
    placed_well o (form UnknownKind) c b = whole_record (form UnknownKind) (omega arith) b
    placed_well o (form BodyLength) c b = whole_record (form BodyLength) (omega arith) b
    placed_well o (form OutOfOrder) c b = in_order o b
    placed_well o (contents e) c (q, l, m) = c e refl (subst (λ x. (j e).meets (rs, x)) (same_record file p r q h l) m)

  -- where rs are followed by more records, nothing is wrong after rs
  goes_on : (file : List ℕ) (p q : ℕ) (rs qs : List Rec) (w : Reason E) → Upto j file q qs → Ill w file p rs → Longer rs qs (drop p file) (drop q file) → rs ≡ qs
  goes_on file p q rs qs w u b ([], same, is) = sym (same ∙ append-nil rs)
  goes_on file p q rs qs w u b (r ∷ more, same, is) =
      absurd (placed_well file p rs r
      (record {
        rest = flat_map bytes more ++ drop q file;
        is = is ∙ append_assoc (bytes r) (flat_map bytes more) (drop q file);
        fit = all_mid rs more r (subst (AllByRecursion Fit) same u.fit);
      })
      (begins_mid rs more r (subst (λ l. Begins (kinds l)) same u.begins)) w (λ e _ m. u.taken rs more r same e m) b)

  met : (file : List ℕ) (p q : ℕ) (rs qs : List Rec) → Upto j file p rs → Upto j file q qs → Longer rs qs (drop p file) (drop q file) ⊎ Longer qs rs (drop q file) (drop p file)
  met file p q rs qs u v =
      same_start rs qs (drop p file) (drop q file) (append_cancel_left header _ _ (sym (parts file p rs u.is) ∙ parts file q qs v.is))

  same_place : (file : List ℕ) (p q : ℕ) (rs qs : List Rec) → Upto j file p rs → Upto j file q qs → rs ≡ qs → p ≡ q
  same_place file p q rs qs u v e = place_is file p rs u.within u.is ∙ ap (λ l. length (file_of l)) e ∙ sym (place_is file q qs v.within v.is)

  -- only one list of records has something wrong after it
  lone : (file : List ℕ) (p q : ℕ) (rs qs : List Rec) (w v : Reason E) → Upto j file p rs → Upto j file q qs → Ill w file p rs → Ill v file q qs → rs ≡ qs
  lone file p q rs qs w v u t b c =
      ⊎_elim (λ h. goes_on file p q rs qs w t b h) (λ h. sym (goes_on file q p qs rs v u c h)) (met file p q rs qs u t)

  -- what is wrong after rs with the lowest number is the file's fault
  pub refuses : (file : List ℕ) (p : ℕ) (rs : List Rec) → Upto j file p rs → (w : Reason E) → Ill w file p rs → ((v : Reason E) → (fault j v).number < (fault j w).number → Ill v file p rs → ⊥) → Faulty j file w p
  refuses file p rs u w b none = record { meets = here file p rs u w b; first = λ v q lt m. ⊎_elim (λ low. headed file _ u.small (parts file p rs u.is) v q low m) (λ a. elsewhere v q lt a) (split file v q m) }
    where
      elsewhere : (v : Reason E) (q : ℕ) → (fault j v).number < (fault j w).number → After j (Ill v) (file, q) → ⊥
      elsewhere v q lt (qs, t, c) =
          let same = lone file p q rs qs w v u t b c in
          let place = same_place file p q rs qs u t same in
          none v lt (subst (λ x. Ill v file x rs) (sym place) (subst (λ l. Ill v file q l) (sym same) c))

  -- a whole file whose records the judge takes
  pub whole_upto : (file : List ℕ) (rs : List Rec) → Holds file rs → Taken j rs → Upto j file (length file) rs
  whole_upto file rs h t = record {
    small = h.small;
    within = omega arith;
    is = take_all (length file) file (omega arith) ∙ h.is;
    fit = h.fit;
    begins = ([], subst Whole (sym (append-nil (kinds rs))) h.whole);
    taken = t;
  }

  nothing_follows : (file y : List ℕ) (rs qs : List Rec) → Longer rs qs (drop (length file) file) y → rs ≡ qs
  nothing_follows file y rs qs ([], same, is) = sym (same ∙ append-nil rs)
  nothing_follows file y rs qs (r ∷ more, same, is) = absurd (omega (arith, ap length (sym (drop_all (length file) file (omega arith)) ∙ is)))

  -- at the end of a whole file nothing is wrong
  ended : (file : List ℕ) (p : ℕ) (rs : List Rec) → Holds file rs → p ≡ length file → (w : Reason E) → Ill w file p rs → ⊥
  ended file p rs h at (form TooLong) b = b
  ended file p rs h at (form NotATicketFile) b = b
  ended file p rs h at (form OtherVersion) b = b
  ended file p rs h at (form PastEnd) b = omega (arith, b.0)
  ended file p rs h at (form UnknownKind) b = omega (arith, b.0)
  ended file p rs h at (form BodyLength) b = omega (arith, b.0)
  ended file p rs h at (form OutOfOrder) b = ⊎_elim (λ x. omega (arith, x.0)) (λ x. x.1 h.whole) b
  ended file p rs h at (contents e) (r, l, m) = omega (arith, long_is file p r l)

  -- a file that holds records which the judge takes has no fault
  pub held_is_well : (file : List ℕ) (rs : List Rec) → Holds file rs → Taken j rs → (w : Reason E) (p : ℕ) → (fault j w).meets (file, p) → ⊥
  unfolding file_of
  held_is_well file rs h t w p m = ⊎_elim (λ low. headed file _ h.small h.is w p low m) spoils (split file w p m)
    where
      all : Upto j file (length file) rs
      all = whole_upto file rs h t

      spoils : After j (Ill w) (file, p) → ⊥
      spoils (qs, u, b) =
          let same : qs ≡ rs = ⊎_elim (λ l. goes_on file p (length file) qs rs w all b l) (λ l. sym (nothing_follows file _ rs qs l)) (met file p (length file) qs rs u all) in
          ended file p rs h (same_place file p (length file) qs rs u all same) w (subst (λ l. Ill w file p l) same b)

  one_place : (file : List ℕ) (w : Reason E) (p q : ℕ) → (fault j w).meets (file, p) → (fault j w).meets (file, q) → p ≡ q
  one_place file (form TooLong) p q m n = omega (arith, m.0, n.0)
  one_place file (form NotATicketFile) p q m n = omega (arith, m.0, n.0)
  one_place file (form OtherVersion) p q m n = omega (arith, m.0, n.0)
  one_place file (form PastEnd) p q m n = same_place file p q _ _ m.1 n.1 (lone file p q _ _ (form PastEnd) (form PastEnd) m.1 n.1 m.2 n.2)
  one_place file (form UnknownKind) p q m n = same_place file p q _ _ m.1 n.1 (lone file p q _ _ (form UnknownKind) (form UnknownKind) m.1 n.1 m.2 n.2)
  one_place file (form BodyLength) p q m n = same_place file p q _ _ m.1 n.1 (lone file p q _ _ (form BodyLength) (form BodyLength) m.1 n.1 m.2 n.2)
  one_place file (form OutOfOrder) p q m n = same_place file p q _ _ m.1 n.1 (lone file p q _ _ (form OutOfOrder) (form OutOfOrder) m.1 n.1 m.2 n.2)
  one_place file (contents e) p q m n = same_place file p q _ _ m.1 n.1 (lone file p q _ _ (contents e) (contents e) m.1 n.1 m.2 n.2)

  numbered : ℕ → FileRefusal
  numbered n = cond (eqb n 1) TooLong (cond (eqb n 2) NotATicketFile (cond (eqb n 3) OtherVersion (cond (eqb n 4) PastEnd (cond (eqb n 5) UnknownKind (cond (eqb n 6) BodyLength OutOfOrder)))))

  back : (f : FileRefusal) → numbered (fault j (form f)).number ≡ f
  unfolding numbered
  back TooLong = refl
  back NotATicketFile = refl
  back OtherVersion = refl
  back PastEnd = refl
  back UnknownKind = refl
  back BodyLength = refl
  back OutOfOrder = refl

  -- no two refusals of the judge share a number
  module _ (apart : (d e : E) → (j d).number ≡ (j e).number → d ≡ e) where
    -- the number tells the reason
    same_reason : (w v : Reason E) → (fault j w).number ≡ (fault j v).number → w ≡ v
    same_reason (form f) (form g) e = ap form (sym (back f) ∙ ap numbered e ∙ back g)
    same_reason (form f) (contents d) e = absurd (omega (arith, form_low j f, later d))
    same_reason (contents d) (form g) e = absurd (omega (arith, form_low j g, later d))
    same_reason (contents d) (contents c) e = ap contents (apart d c e)

    -- a file has one fault at most
    pub one_fault : (file : List ℕ) (w v : Reason E) (p q : ℕ) → Faulty j file w p → Faulty j file v q → (w ≡ v) × (p ≡ q)
    one_fault file w v p q a b =
        ⊎_elim
        (λ same.
        let e = same_reason w v same in
        (e, one_place file w p q a.meets (subst (λ x. (fault j x).meets (file, q)) (sym e) b.meets)))
        (λ other. absurd (⊎_elim (λ lt. b.first w p lt a.meets) (λ lt. a.first v q lt b.meets) other))
        (cases_order (fault j w).number (fault j v).number)

  -- the first record that the judge refuses is the file's fault
  pub refuses_contents : (file : List ℕ) (p : ℕ) (rs : List Rec) (r : Rec) (e : E) → Upto j file p rs → Lies file p r → Begins (kinds rs ++ kind r ∷ []) → Answers j (rs, r) e → Faulty j file (contents e) p
  refuses_contents file p rs r e u l o a =
      refuses file p rs u (contents e) (r, l, a.meets) (λ v lt b. placed_well file p rs r l o v (λ d same m. a.first d (omega arith) m) b)
