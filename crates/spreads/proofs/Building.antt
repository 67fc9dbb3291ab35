-- What the builder builds is a greedy spread. Assumes nothing.
use Rattle.std.proofs.Common.{◌≡◌, ℕ, zero, suc, ◌+◌, ◌-◌, ◌*◌, ◌<◌, ◌≤◌, ◌⊎◌, List, [], ◌∷◌, ◌++◌, length, get_or, set, sym, refl, ap, ◌∙◌, subst, inl, inr, suc-le-suc, zero-le, le_of_suc-le-suc, not-suc-le-zero, arith, get_or-set_other, get_or-set_same}
use Rattle.std.proofs.lemmas.Bool.{cases_eq}
use Rattle.tickets.specs.declared.ticket.Ticket.{Ticket}
use Rattle.spreads.specs.Lines.{Slot, idle, playing, played}
use Rattle.spreads.specs.Spreads.{ticket, Spread, value, price, release}
use Rattle.spreads.specs.Greedy.{Waiting, Greedy, busy}
use Rattle.spreads.specs.Pinned.{put}
use Rattle.spreads.specs.Builder.{Ready, Builds, ends, idles, plays, lengths, halves, BuiltFree, BuiltPinned}
use Rattle.spreads.proofs.Sums.{sum_none}
use Rattle.spreads.proofs.Slots.{amount_same, amount_other, pick}
use Rattle.spreads.proofs.Lines.{price_is}
use Rattle.spreads.proofs.Greedy.{greedy_allowed, greedy_price}
use Rattle.spreads.proofs.Pinned.{pinned_price}
use Rattle.spreads.proofs.Pushes.{push_length, push_played_all, push_busy, push_greedy}

-- a list has a place where it has something
pub within : (l : List ℕ) (j : ℕ) → 0 < get_or l j 0 → j < length l
within [] j h = absurd (not-suc-le-zero h)
within (x ∷ l) zero h = suc-le-suc zero-le
within (x ∷ l) (suc j) h = suc-le-suc (within l j h)

pub lengths_at : (ts : List Ticket) (i : ℕ) → i < length ts → get_or (lengths ts) i 0 ≡ (ticket ts i).length
lengths_at [] i h = absurd (not-suc-le-zero h)
lengths_at (x ∷ ts) zero h = refl
lengths_at (x ∷ ts) (suc i) h = lengths_at ts i (le_of_suc-le-suc h)

module _ (ts : List Ticket) (r v : ℕ → ℕ) where
  -- what the line L has not played of each ticket is left
  abbrev pub Rest : List Slot → List ℕ → Type 0
  Rest L left = (i : ℕ) → i < length ts → played L i (length L) + get_or left i 0 ≡ (ticket ts i).length

  module _ (L : List Slot) (left : List ℕ) (e : Rest L left) where
    to_ready : (j : ℕ) → Waiting ts r L (length L) j → Ready ts r (length L) left j
    to_ready j w = (w.known, w.released, omega (arith, w.unfinished, e j w.known))

    to_waiting : (j : ℕ) → Ready ts r (length L) left j → Waiting ts r L (length L) j
    to_waiting j w = record { known = w.0; released = w.1; unfinished = omega (arith, w.2, e j w.0) }

    rest_idle : Rest (L ++ idle ∷ []) left
    rest_idle i h = omega (arith, push_played_all L idle i, e i h)

    rest_plays : (j : ℕ) → 0 < get_or left j 0 → Rest (L ++ playing j ∷ []) (set left j (get_or left j 0 - 1))
    rest_plays j p i h = at (cases_eq i j)
      where
        less : ℕ
        less = get_or left j 0 - 1

        at : (i ≡ j) ⊎ (i ≡ j → ⊥) → played (L ++ playing j ∷ []) i (length (L ++ playing j ∷ [])) + get_or (set left j less) i 0 ≡ (ticket ts i).length
        at (inl q) =
            let a : get_or (set left j less) i 0 ≡ less = ap (λ z. get_or (set left j less) z 0) q ∙ get_or-set_same left j less 0 (within left j p) in
            omega (arith, a, push_played_all L (playing j) i, amount_same i j q, ap (λ z. get_or left z 0) q, e i h)
        at (inr o) = omega (arith, push_played_all L (playing j) i, amount_other i j o, get_or-set_other left j i less 0 o, e i h)

  -- a greedy line of t slots, built on from slot t
  pub build_on : {t : ℕ} {left : List ℕ} {c : ℕ} → Builds ts r v t left c → (L : List Slot) → length L ≡ t → Greedy ts r v L → Rest L left →
      (G : List Slot) × Greedy ts r v G × Spread ts r G × (busy ts (value ts) G ≡ busy ts (value ts) L + c)
  build_on (ends z) L e g f = (L, g, record { allowed = greedy_allowed ts r v L g; full = λ i h. omega (arith, f i h, z i h) }, omega arith)
  build_on {t} {left} (idles b q) L e g f =
      let n = build_on q (L ++ idle ∷ []) (omega (arith, push_length L idle)) (push_greedy L idle ts r v g (λ j w. b j (subst (λ k. Ready ts r k left j) e (to_ready L left f j w)))) (rest_idle L left f) in
      let none = sum_none (length ts) (λ i. value ts i * 0) (λ i h. omega arith) in
      (n.0, n.1, n.2, omega (arith, n.3, push_busy L idle ts (value ts), ap (λ z. z * length L) none))
  build_on {t} {left} (plays {c = c} j b q) L e g f =
      let mine : Ready ts r (length L) left j = subst (λ k. Ready ts r k left j) (sym e) b.0 in
      let above : (i : ℕ) → Waiting ts r L (length L) i → v i ≤ v j = λ i w. b.1 i (subst (λ k. Ready ts r k left i) e (to_ready L left f i w)) in
      let n = build_on q (L ++ playing j ∷ []) (omega (arith, push_length L (playing j))) (push_greedy L (playing j) ts r v g (to_waiting L left f j mine, above)) (rest_plays L left f j b.0.2) in
      let one = pick (length ts) (value ts) j b.0.0 in
      (n.0, n.1, n.2, omega (arith, n.3, push_busy L (playing j) ts (value ts), ap (λ z. z * length L) one, ap (λ z. value ts j * z) e))

  -- the whole: a greedy spread with these busy terms
  pub built : (c : ℕ) → Builds ts r v 0 (lengths ts) c → (G : List Slot) × Greedy ts r v G × Spread ts r G × (busy ts (value ts) G ≡ c)
  built c q =
      let n = build_on q [] refl (λ k h. absurd (omega arith)) (λ i h. omega (arith, lengths_at ts i h)) in
      let none = sum_none (length ts) (λ i. value ts i * 0) (λ i h. omega arith) in
      (n.0, n.1, n.2, omega (arith, n.3, none))

pub built_free : BuiltFree
built_free ts rs c q =
    let n = built ts (release rs) (value ts) c q in
    let e : price ts n.0 ≡ halves ts + c = omega (arith, price_is ts n.0, n.3) in
    rw e at (greedy_price ts rs n.0 n.1 n.2)

pub built_pinned : BuiltPinned
built_pinned ts rs i t top c known above q =
    let n = built ts (put (release rs) i t) (put (value ts) i top) c q in
    let e : price ts n.0 ≡ halves ts + c = omega (arith, price_is ts n.0, n.3) in
    rw e at (pinned_price ts rs i t top n.0 known above n.1 n.2)
