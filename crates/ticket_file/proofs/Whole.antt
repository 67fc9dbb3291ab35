-- Reading a whole file. Assumes nothing.
use Rattle.std.proofs.Common.{◌≡◌, ℕ, ◌+◌, ◌<◌, ◌⊎◌, List, [], ◌∷◌, ◌++◌, map, length, Some, None, Ok, vec_items, sym, ap, ◌∙◌, subst, inr, arith, length-append}
use mathlib.Core.List.{map-append}
use Rattle.std.specs.List.{flat_map}
use Rattle.ticket_file.specs.declared.refusal.FileRefusal.{FileRefusal}
use Rattle.ticket_file.specs.declared.refusal.FileFault.{FileFault}
use Rattle.ticket_file.specs.declared.record.Placed.{Placed}
use Rattle.ticket_file.specs.declared.cursor.Cursor.{Cursor}
use Rattle.ticket_file.specs.declared.stage.Stage.{Stage}
use Rattle.ticket_file.specs.declared.reading.Reading.{Reading}
use Rattle.ticket_file.specs.Format.{Rec, bytes, file_of, Holds}
use Rattle.ticket_file.specs.Faults.{no_judge, Taken, Upto, Reason, form, Faulty}
use Rattle.ticket_file.specs.Readings.{plain, spot, spots, seen, Ends, Read, Sofar, At, Found}
use Rattle.ticket_file.proofs.Unique.{injective}
use Rattle.ticket_file.proofs.Steps.{no_numbers, upto}
use Rattle.ticket_file.proofs.Verdicts.{place_is, held_is_well, one_fault}

-- the records of the file that are read, as they are handed out
pub record Handed (file : List ℕ) (c : Cursor) (xs : List Placed) : Type 0 where
  pub rs : List Rec
  pub of : c.file.now ≡ file
  pub sofar : At c rs
  pub are : map seen xs ≡ spots 5 rs

-- one record more, at its place
spots_push : (p : ℕ) (rs : List Rec) (r : Rec) → spots p (rs ++ r ∷ []) ≡ spots p rs ++ spot (p + length (flat_map bytes rs)) r ∷ []
spots_push p [] r = ap (λ q. spot q r ∷ []) (omega arith)
spots_push p (x ∷ rs) r =
    ap (λ l. spot p x ∷ l) (spots_push (p + length (bytes x)) rs r ∙ ap (λ q. spots (p + length (bytes x)) rs ++ spot q r ∷ []) (omega (arith, length-append (bytes x) (flat_map bytes rs))))

place_at : (file : List ℕ) (p : ℕ) (s : Stage) (rs : List Rec) → Sofar file p s rs → p ≡ 5 + length (flat_map bytes rs)
unfolding file_of
place_at file p s rs r = omega (arith, place_is file p rs r.within r.is)

pub more : (file : List ℕ) (c d : Cursor) (xs ys : List Placed) (x : Placed) (h : Handed file c xs) → ys ≡ xs ++ x ∷ [] → Found c h.rs (Ok x) d → Handed file d ys
more file c d xs ys x h added (next, same, is, lt) = record {
  rs = h.rs ++ plain x.record ∷ [];
  of = same ∙ h.of;
  sofar = next;
  are = ap (map seen) added ∙ map-append seen xs (x ∷ []) ∙ (λ i. h.are i ++ is i ∷ []) ∙ ap (λ q. spots 5 h.rs ++ spot q (plain x.record) ∷ []) (place_at c.file.now c.place c.stage h.rs h.sofar) ∙ sym (spots_push 5 h.rs (plain x.record));
}

takes_all : (rs : List Rec) → Taken no_judge rs
takes_all rs before after r same e m = absurd e

-- all records are read
pub complete : (file : List ℕ) (x : Reading) (rs : List Rec) → map seen (vec_items x.records) ≡ spots 5 rs → x.fault ≡ None → Holds file rs → Read file x
complete file x rs are none h = record {
  rs = rs;
  handed = are;
  ends = subst (Ends file rs) (sym none) h;
  all = λ qs k. (none, injective rs qs (sym h.is ∙ k.is));
  faulty = λ e p f. absurd (held_is_well no_judge no_numbers file rs h (takes_all rs) (form e) p f.meets);
}

-- a fault is found
pub faulted : (file : List ℕ) (x : Reading) (rs : List Rec) (f : FileFault) → map seen (vec_items x.records) ≡ spots 5 rs → x.fault ≡ Some f → Faulty no_judge file (form f.refusal) f.place → ((f.place < 5) × (rs ≡ [])) ⊎ Upto no_judge file f.place rs → Read file x
faulted file x rs f are some b front = record {
  rs = rs;
  handed = are;
  ends = subst (Ends file rs) (sym some) (b, front);
  all = λ qs h. absurd (held_is_well no_judge no_numbers file qs h (takes_all qs) (form f.refusal) f.place b.meets);
  faulty = λ e p g. some ∙ ap Some (same e p (one_fault no_judge no_numbers (λ e. absurd e) file (form f.refusal) (form e) f.place p b g));
}
  where
    same : (e : FileRefusal) (p : ℕ) → (◌≡◌ {A = Reason ⊥} (form f.refusal) (form e)) × (f.place ≡ p) → f ≡ record { refusal = e; place = p }
    same e p (w, at) = let r : f.refusal ≡ e = cc in λ i. record { refusal = r i; place = at i }

-- nothing is left to read
pub ended : (file : List ℕ) (c : Cursor) (x : Reading) (h : Handed file c (vec_items x.records)) → x.fault ≡ None → Holds c.file.now h.rs → Read file x
ended file c x h none holds = subst (λ l. Read l x) h.of (complete c.file.now x h.rs h.are none holds)

-- a fault is met where the cursor stands
pub stopped : (file : List ℕ) (c : Cursor) (x : Reading) (f : FileFault) (h : Handed file c (vec_items x.records)) → x.fault ≡ Some f → Faulty no_judge c.file.now (form f.refusal) c.place × (f.place ≡ c.place) → Read file x
stopped file c x f h some (b, at) =
    subst (λ l. Read l x) h.of
    (faulted c.file.now x h.rs f h.are some (subst (Faulty no_judge c.file.now (form f.refusal)) (sym at) b) (inr (subst (λ p. Upto no_judge c.file.now p h.rs) (sym at) (upto c.file.now c.place c.stage h.rs h.sofar))))
