-- The laws of the two sinks: counting, and placing into a buffer. Assumes nothing.
use Rattle.std.proofs.Common.{◌≡◌, ℕ, ◌+◌, ◌-◌, ◌≤◌, List, [], ◌++◌, length, take, drop, sym, refl, ap, ◌∙◌, append_assoc, append-nil, arith, length-append, length-drop}
use Rattle.std.proofs.lemmas.List.{drop-drop, take-append-drop, length-take}
use Rattle.listing.specs.Placing.{Placed}

pub counted_none : (n : ℕ) → n ≡ n + length {A = ℕ} []
counted_none n = omega arith

pub counted_more : (n m k : ℕ) (a b : List ℕ) → m ≡ n + length a → k ≡ m + length b → k ≡ n + length (a ++ b)
counted_more n m k a b p q = omega (arith, length-append a b)

pub counted_room : (n m : ℕ) (a : List ℕ) → m ≡ n + length a → 18446744073709551615 - n ≤ length a + (18446744073709551615 - m)
counted_room n m a p = omega arith

-- nothing placed
pub placed_none : (was : List ℕ) (at : ℕ) → at ≤ length was → Placed was at [] was at
placed_none was at room = record { ends = omega arith; room = room; front = sym (append-nil (take at was)); back = refl }

-- the buffer keeps its length
pub placed_same : (was is text : List ℕ) (at e : ℕ) → Placed was at text is e → length is ≡ length was
placed_same was is text at e p =
    omega (
      arith,
      ap length (take-append-drop e is),
      length-append (take e is) (drop e is),
      ap length p.front,
      length-append (take at was) text,
      length-take at was,
      ap length p.back,
      length-drop e was,
      p.ends,
      p.room,
    )

-- one text after another
pub placed_more : (was mid is a b : List ℕ) (at e f : ℕ) → Placed was at a mid e → Placed mid e b is f → Placed was at (a ++ b) is f
placed_more was mid is a b at e f p q = record {
  ends = omega (arith, p.ends, q.ends, length-append a b);
  room = omega (arith, q.room, placed_same was mid a at e p);
  front = q.front ∙ ap (λ l. l ++ b) p.front ∙ append_assoc (take at was) a b;
  back =
      let on : e + (f - e) ≡ f = omega (arith, q.ends) in
      q.back ∙ ap (λ n. drop n mid) (sym on) ∙ sym (drop-drop (f - e) e mid) ∙ ap (drop (f - e)) p.back ∙ drop-drop (f - e) e was ∙ ap (λ n. drop n was) on;
}

-- how much room is left
pub placed_room : (was is text : List ℕ) (at e : ℕ) → Placed was at text is e → length was - at ≤ length text + (length is - e)
placed_room was is text at e p = omega (arith, p.ends, placed_same was is text at e p)
