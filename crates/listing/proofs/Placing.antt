-- One text after another in a buffer. Assumes nothing.
use Rattle.std.proofs.Common.{◌≡◌, ℕ, ◌+◌, ◌-◌, ◌≤◌, List, ◌++◌, length, take, drop, sym, refl, ap, ◌∙◌, arith}
use borrow.Rule.Slice.PartMut.{put_mid}
use Rattle.std.proofs.lemmas.Slice.{take-put_mid, drop-put_mid}
use Rattle.std.proofs.lemmas.List.{take-append-drop}
use Rattle.listing.specs.Placing.{Placed}

-- what a copy into a part of the buffer places
pub placed_is : (was text is : List ℕ) (at : ℕ) → at + length text ≤ length was → is ≡ put_mid at (at + length text - at) was text → Placed was at text is (at + length text)
placed_is was text is at room e = record {
  ends = refl;
  room = room;
  front = ap (take (at + length text)) e ∙ take-put_mid at (at + length text - at) was text (at + length text) refl (omega arith);
  back = ap (drop (at + length text)) e ∙ drop-put_mid at (at + length text - at) was text (at + length text) (omega arith) (omega arith) (omega arith);
}

-- a text at the front of a buffer
pub placed_first : (was is text : List ℕ) (e : ℕ) → Placed was 0 text is e → is ≡ text ++ drop e was
placed_first was is text e p = sym (take-append-drop e is) ∙ ap (λ l. l ++ drop e is) p.front ∙ ap (λ l. text ++ l) p.back
