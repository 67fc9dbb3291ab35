-- One step of reading: the next record, the end, or the fault. Assumes nothing.
use Rattle.std.proofs.Common.{◌≡◌, ℕ, ◌+◌, ◌-◌, ◌<◌, ◌≤◌, ◌≢◌, List, [], ◌∷◌, ◌++◌, length, get_or, take, drop, Option, sym, refl, ap, ◌∙◌, subst, inl, inr, arith, length-append, length-drop, take-add}
use mathlib.Core.List.{map-append}
use Rattle.std.proofs.lemmas.List.{flat_map_more, get_or-drop, take_at, take_rest}
use Rattle.std.proofs.ByRecursion.{All-push}
use Rattle.ticket_file.specs.declared.refusal.FileRefusal.{FileRefusal}
use Rattle.ticket_file.specs.declared.refusal.FileRefusal.TheVariants.{TooLong, NotATicketFile, OtherVersion, PastEnd, UnknownKind, BodyLength, OutOfOrder}
use Rattle.ticket_file.specs.declared.stage.Stage.{Stage}
use Rattle.ticket_file.specs.declared.stage.Stage.TheVariants.{Tickets}
use Rattle.ticket_file.specs.declared.kind.Kind.{Kind}
use Rattle.ticket_file.specs.declared.kind.Kind.TheVariants.{Ticket as TicketKind, Ceiling as CeilingKind, Ban as BanKind}
use Rattle.ticket_file.specs.declared.record.Record.{Record}
use Rattle.ticket_file.specs.declared.record.Record.TheVariants.{Ticket, Ceiling, Ban}
use Rattle.ticket_file.specs.Format.{Rec, ticket, ceiling, ban, kind, bytes, Fit, header, file_of, Begins, kinds}
use Rattle.ticket_file.specs.Faults.{no_judge, Upto, Lies, PassesEnd, Unknown, Misfit, Reason, form, contents, fault, Faulty}
use Rattle.ticket_file.specs.Readings.{plain, Spot, spot, letter, Decoded, Misfits, Follows, Sofar}
use Rattle.ticket_file.proofs.Orders.{follows_begin, unended}
use Rattle.ticket_file.proofs.Verdicts.{Ill, refuses, whole_record, first_is, long_is}

-- the judge that refuses nothing has no numbers
pub no_numbers : (e : ⊥) → 7 < (no_judge e).number
no_numbers e = absurd e

pub upto : (file : List ℕ) (p : ℕ) (s : Stage) (rs : List Rec) → Sofar file p s rs → Upto no_judge file p rs
upto file p s rs r = record { small = r.small; within = r.within; is = r.is; fit = r.fit; begins = follows_begin s (kinds rs) r.follows; taken = λ _ _ _ _ e _. absurd e }

-- no record is read yet
pub opened : (file rest : List ℕ) → file ≡ header ++ rest → length file ≤ 32768 → (p : ℕ) → p ≡ length file - length rest → Sofar file p Tickets []
unfolding file_of
opened file rest e small p at =
    let five : p ≡ 5 = omega (arith, ap length e) in
    record { small = small; within = omega (arith, ap length e); is = ap (λ q. take q file) five ∙ ap (take 5) e; fit = tt; follows = (0, refl) }

-- a kind and a body stand at p
pub record Framed (file : List ℕ) (p k : ℕ) (b : List ℕ) : Type 0 where
  pub more : List ℕ
  pub is : drop p file ≡ k ∷ length b ∷ (b ++ more)

pub framed : (file : List ℕ) (p k : ℕ) (b more : List ℕ) → take (length file - p) (drop p file) ≡ k ∷ length b ∷ (b ++ more) → Framed file p k b
framed file p k b more e = record { more = more; is = sym (take_rest file p) ∙ e }

pub lies : (file : List ℕ) (p k : ℕ) (b : List ℕ) (x : Record) → Framed file p k b → Decoded k b p x → Lies file p (plain x)
lies file p k b x h d = record { rest = h.more; is = h.is ∙ ap (λ l. l ++ h.more) (sym d.is); fit = d.fit }

pub kind_is : (p k : ℕ) (b : List ℕ) (x : Record) → Decoded k b p x → kind (plain x) ≡ k
kind_is p k b x d = ap (λ l. get_or l 0 0) d.is

module _ (file : List ℕ) (p k : ℕ) (b : List ℕ) (h : Framed file p k b) where
  kind_at : get_or file p 0 ≡ k
  kind_at = ap (λ i. get_or file i 0) (omega arith) ∙ sym (get_or-drop p file 0 0) ∙ ap (λ l. get_or l 0 0) h.is

  length_at : get_or file (p + 1) 0 ≡ length b
  length_at = sym (get_or-drop p file 1 0) ∙ ap (λ l. get_or l 1 0) h.is

  pub room_at : length file - p ≡ 2 + length b + length h.more
  room_at = sym (length-drop p file) ∙ ap length h.is ∙ omega (arith, length-append b h.more)

-- each kind is some record's
some_record : (k : Kind) → ((q : Rec) → kind q ≢ letter k) → ⊥
some_record TicketKind none = none (ticket (record { first = 0; last = 0; length = 0; weight = 0 }) []) refl
some_record CeilingKind none = none (ceiling 0) refl
some_record BanKind none = none (ban 0 0) refl

-- nothing with a number below n, as far as it is told
lower : (file : List ℕ) (p : ℕ) (rs : List Rec) (n : ℕ) → n ≤ 7 → (4 < n → PassesEnd file p rs → ⊥) → (5 < n → Unknown file p rs → ⊥) → (6 < n → Misfit file p rs → ⊥) → (v : Reason ⊥) → (fault no_judge v).number < n → Ill no_judge no_numbers v file p rs → ⊥
lower file p rs n le past unknown misfit (form TooLong) lt b = b
lower file p rs n le past unknown misfit (form NotATicketFile) lt b = b
lower file p rs n le past unknown misfit (form OtherVersion) lt b = b
lower file p rs n le past unknown misfit (form PastEnd) lt b = past lt b
lower file p rs n le past unknown misfit (form UnknownKind) lt b = unknown lt b
lower file p rs n le past unknown misfit (form BodyLength) lt b = misfit lt b
lower file p rs n le past unknown misfit (form OutOfOrder) lt b = omega arith
lower file p rs n le past unknown misfit (contents e) lt b = absurd e

module _ (file : List ℕ) (p : ℕ) (s : Stage) (rs : List Rec) (r : Sofar file p s rs) where
  -- the record at p is handed out
  pub hands : (q : Rec) (s' : Stage) → Lies file p q → Follows s' (kinds rs ++ kind q ∷ []) → (n : ℕ) → n ≡ p + length (bytes q) → Sofar file n s' (rs ++ q ∷ [])
  unfolding file_of
  hands q s' h f n at =
      record {
        small = r.small;
        within = omega (arith, long_is file p q h, r.within);
        is = ap (λ i. take i file) at ∙ take-add p (length (bytes q)) file ∙ (λ i. r.is i ++ front i) ∙ flat_map_more bytes header rs q;
        fit = All-push Fit rs q r.fit h.fit;
        follows = subst (Follows s') (sym (map-append kind rs (q ∷ []))) f;
      }
    where
      front : take (length (bytes q)) (drop p file) ≡ bytes q
      front = ap (take (length (bytes q))) h.is ∙ take_at (bytes q) h.rest _ refl

  faulty : (d e : FileRefusal) → e ≡ d → Ill no_judge no_numbers (form d) file p rs → ((v : Reason ⊥) → (fault no_judge v).number < (fault no_judge (form d)).number → Ill no_judge no_numbers v file p rs → ⊥) → Faulty no_judge file (form e) p
  faulty d e is b none = subst (λ x. Faulty no_judge file (form x) p) (sym is) (refuses no_judge no_numbers file p rs (upto file p s rs r) (form d) b none)

  -- the record at p passes the end
  pub past_end : (e : FileRefusal) → p < length file → (rest : List ℕ) → rest ≡ take (length file - p) (drop p file) → (e ≡ PastEnd) × (length rest < 2 + get_or rest 1 0) → Faulty no_judge file (form e) p
  past_end e lt rest same (is, short) =
      faulty PastEnd e is (lt, bad) (lower file p rs 4 (omega arith) (λ h _. omega arith) (λ h _. omega arith) (λ h _. omega arith))
    where
      back : rest ≡ drop p file
      back = same ∙ take_rest file p

      bad : length file < p + 2 + get_or file (p + 1) 0
      bad = omega (arith, ap length back, length-drop p file, ap (λ l. get_or l 1 0) back, get_or-drop p file 1 0)

  -- the kind at p is unknown
  pub unnamed : (k : ℕ) (b : List ℕ) (e : FileRefusal) → Framed file p k b → (e ≡ UnknownKind) × ((q : Rec) → kind q ≢ k) → Faulty no_judge file (form e) p
  unnamed k b e h (is, none) =
      faulty UnknownKind e is (omega (arith, room_at file p k b h), λ q w. none q (w ∙ kind_at file p k b h))
      (lower file p rs 5 (omega arith) (λ _ x. omega (arith, x.1, room_at file p k b h, length_at file p k b h)) (λ h _. omega arith) (λ h _. omega arith))

  -- the body at p has another length than its kind has
  pub misfits : (k : Kind) (b : List ℕ) (e : FileRefusal) → Framed file p (letter k) b → Misfits (letter k) (length b) e → Faulty no_judge file (form e) p
  misfits k b e h (is, none) =
      faulty BodyLength e is (omega (arith, room_at file p (letter k) b h), λ q fit w long. none q fit (w ∙ kind_at file p (letter k) b h) (long ∙ ap (λ n. 2 + n) (length_at file p (letter k) b h)))
      (lower file p rs 6 (omega arith) (λ _ x. omega (arith, x.1, room_at file p (letter k) b h, length_at file p (letter k) b h)) (λ _ x. some_record k (λ q w. x.1 q (w ∙ sym (kind_at file p (letter k) b h)))) (λ h _. omega arith))

  -- the record at p is out of its order
  pub disordered : (q : Rec) (e : FileRefusal) → Lies file p q → (e ≡ OutOfOrder) × (Begins (kinds rs ++ kind q ∷ []) → ⊥) → Faulty no_judge file (form e) p
  disordered q e h (is, out) =
      faulty OutOfOrder e is (inl (omega (arith, long_is file p q h), λ o. out (subst (λ k. Begins (kinds rs ++ k ∷ [])) (first_is file p q h) o))) (λ v lt b. whole_record no_judge no_numbers file p rs q h v lt b)

  -- the file ends before its ceiling
  pub unfinished : length file ≤ p → s ≡ Tickets → Faulty no_judge file (form OutOfOrder) p
  unfinished end is =
      faulty OutOfOrder OutOfOrder refl (inr (omega (arith, r.within), unended (kinds rs) (subst (λ x. Follows x (kinds rs)) is r.follows)))
      (lower file p rs 7 (omega arith) (λ _ x. omega (arith, x.0)) (λ _ x. omega (arith, x.0)) (λ _ x. omega (arith, x.0)))

-- a record with its label's place is handed out where it stands
pub spot_is : (p : ℕ) (x : Record) (b : Option ℕ) → b ≡ (spot p (plain x)).label → ◌≡◌ {A = Spot} (record { place = p; rec = plain x; label = b }) (spot p (plain x))
spot_is p (Ticket terms label) b e = λ i. record { place = p; rec = plain (Ticket terms label); label = e i }
spot_is p (Ceiling u) b e = λ i. record { place = p; rec = ceiling u; label = e i }
spot_is p (Ban t s) b e = λ i. record { place = p; rec = ban t s; label = e i }
