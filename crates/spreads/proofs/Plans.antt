-- A plan without overlaps is a spread, and what that says of prices. Assumes nothing.
use Rattle.std.proofs.Common.{◌≡◌, ℕ, zero, suc, ◌+◌, ◌<◌, ◌≤◌, cond, eqb, ◌⊎◌, List, map, length, refl, ap, ◌∙◌, inl, inr, arith}
use Rattle.std.specs.List.{range_with_len}
use Rattle.std.proofs.lemmas.List.FromFn.{length-map-range_with_len, get_or-map-range_with_len}
use Rattle.std.proofs.lemmas.Bool.{cases_eq, eq-eqb, ne_eqb}
use Rattle.tickets.specs.declared.ticket.Ticket.{Ticket}
use Rattle.spreads.specs.Lines.{sum_to, Slot, idle, playing, slot, amount, amounts}
use Rattle.spreads.specs.Spreads.{ticket, Allowed, Spread, release}
use Rattle.spreads.specs.Pinned.{put, Unbroken, PinnedSpread}
use Rattle.spreads.specs.Plans.{Apart, PlaysPlan, PlanIsSpread, PlanBounds}
use Rattle.spreads.proofs.Sums.{sum_same, term_le}
use Rattle.spreads.proofs.Slots.{amount_same, amount_other, amount_is}
use Rattle.spreads.proofs.Puts.{put_same, put_other}
use Rattle.spreads.proofs.Stretches.{inside, inside_yes, inside_cases, count_inside}
use Rattle.spreads.proofs.Lines.{looser}
use Rattle.spreads.proofs.Unbroken.{unbroken_price}

-- The line of a plan: slot k plays the ticket whose stretch it is in.
module _ (ts : List Ticket) (r s : ℕ → ℕ) (apart : Apart ts s) (late : (i : ℕ) → i < length ts → r i ≤ s i) where
  -- 1 in the stretch of ticket i
  abbrev stretch : ℕ → ℕ → ℕ
  stretch i k = inside (s i) (ticket ts i).length k

  -- of the tickets below n, the one whose stretch k is in
  abbrev holder : ℕ → ℕ → Slot
  holder k zero = idle
  holder k (suc n) = cond (eqb (stretch n k) 1) (playing n) (holder k n)

  -- no slot is in two stretches
  alone : (k i j : ℕ) → i < length ts → j < length ts → (i ≡ j → ⊥) → stretch j k ≡ 1 → stretch i k ≡ 0
  alone k i j a b o e = by (inside_cases (s i) (ticket ts i).length k) (inside_cases (s j) (ticket ts j).length k)
    where
      by : (stretch i k ≡ 0) ⊎ ((stretch i k ≡ 1) × (s i ≤ k) × (k < s i + (ticket ts i).length)) → (stretch j k ≡ 0) ⊎ ((stretch j k ≡ 1) × (s j ≤ k) × (k < s j + (ticket ts j).length)) → stretch i k ≡ 0
      by (inl z) y = z
      by (inr z) (inl y) = omega arith
      by (inr z) (inr y) = absurd (apart i j a b o (omega (arith, z.1, z.2, y.1, y.2), omega (arith, z.1, z.2, y.1, y.2)))

  holder_later : (k i n : ℕ) → n ≤ i → amount i (holder k n) ≡ 0
  holder_later k i zero l = refl
  holder_later k i (suc n) l = by (holder_later k i n (omega arith)) (cases_eq (stretch n k) 1)
    where
      by : amount i (holder k n) ≡ 0 → (stretch n k ≡ 1) ⊎ (stretch n k ≡ 1 → ⊥) → amount i (holder k (suc n)) ≡ 0
      by old (inl e) = rw (eq-eqb (stretch n k) 1 e) (amount_other i n (λ q. omega arith))
      by old (inr o) = rw (ne_eqb (stretch n k) 1 o) old

  holder_amount : (k i n : ℕ) → i < n → n ≤ length ts → amount i (holder k n) ≡ stretch i k
  holder_amount k i zero l m = absurd (omega arith)
  holder_amount k i (suc n) l m = by (λ q. holder_amount k i n q (omega arith)) (cases_eq (stretch n k) 1) (cases_eq i n)
    where
      nought : (stretch n k ≡ 1 → ⊥) → (stretch n k ≡ 0) ⊎ ((stretch n k ≡ 1) × (s n ≤ k) × (k < s n + (ticket ts n).length)) → stretch n k ≡ 0
      nought o (inl z) = z
      nought o (inr z) = absurd (o z.0)

      by : (i < n → amount i (holder k n) ≡ stretch i k) → (stretch n k ≡ 1) ⊎ (stretch n k ≡ 1 → ⊥) → (i ≡ n) ⊎ (i ≡ n → ⊥) → amount i (holder k (suc n)) ≡ stretch i k
      by old (inl e) (inl q) = rw (eq-eqb (stretch n k) 1 e) (omega (arith, amount_same i n q, ap (λ z. stretch z k) q))
      by old (inl e) (inr q) = rw (eq-eqb (stretch n k) 1 e) (omega (arith, amount_other i n q, alone k i n (omega arith) (omega arith) q e))
      by old (inr o) (inl q) = rw (ne_eqb (stretch n k) 1 o) (omega (arith, holder_later k i n (omega arith), ap (λ z. stretch z k) q, nought o (inside_cases (s n) (ticket ts n).length k)))
      by old (inr o) (inr q) = rw (ne_eqb (stretch n k) 1 o) (old (omega (arith, q)))

  holder_allowed : (k n : ℕ) → n ≤ length ts → Allowed ts r k (holder k n)
  holder_allowed k zero m = tt
  holder_allowed k (suc n) m = by (holder_allowed k n (omega arith)) (cases_eq (stretch n k) 1)
    where
      after : stretch n k ≡ 1 → (stretch n k ≡ 0) ⊎ ((stretch n k ≡ 1) × (s n ≤ k) × (k < s n + (ticket ts n).length)) → r n ≤ k
      after e (inl z) = omega arith
      after e (inr z) = omega (arith, z.1, late n m)

      by : Allowed ts r k (holder k n) → (stretch n k ≡ 1) ⊎ (stretch n k ≡ 1 → ⊥) → Allowed ts r k (holder k (suc n))
      by old (inl e) = rw (eq-eqb (stretch n k) 1 e) (m, after e (inside_cases (s n) (ticket ts n).length k))
      by old (inr o) = rw (ne_eqb (stretch n k) 1 o) old

  -- by this slot every ticket has ended
  abbrev end : ℕ
  end = sum_to (length ts) (λ i. s i + (ticket ts i).length)

  ends : (i : ℕ) → i < length ts → s i + (ticket ts i).length ≤ end
  ends i a = term_le (length ts) (λ i. s i + (ticket ts i).length) i a

  abbrev line : List Slot
  line = map (λ k. holder k (length ts)) (range_with_len 0 end)

  line_length : length line ≡ end
  line_length = length-map-range_with_len (λ k. holder k (length ts)) 0 end

  line_slot : (k : ℕ) → k < end → slot line k ≡ holder k (length ts)
  line_slot k l = get_or-map-range_with_len (λ k. holder k (length ts)) 0 end k k idle l (omega arith)

  line_amount : (i k : ℕ) → i < length ts → k < end → amounts line i k ≡ stretch i k
  line_amount i k a l = ap (amount i) (line_slot k l) ∙ holder_amount k i (length ts) a (omega arith)

  line_spread : Spread ts r line
  line_spread = record {
    allowed = λ k l. rw (line_slot k (omega (arith, line_length))) (holder_allowed k (length ts) (omega arith));
    full = λ i a. rw line_length (sum_same end (amounts line i) (stretch i) (λ k l. line_amount i k a l) ∙ count_inside (s i) (ticket ts i).length end ∙ omega (arith, ends i a));
  }

  line_plays : PlaysPlan ts s line
  line_plays i a k after before =
      let l : k < end = omega (arith, ends i a) in
      amount_is i (slot line k) (line_amount i k a l ∙ inside_yes (s i) (ticket ts i).length k after before)

pub plan_is_spread : PlanIsSpread
plan_is_spread ts r s apart late =
    let u = line_spread ts r s apart late in
    let h = line_plays ts r s apart late in
    (line ts r s apart late, u, h, unbroken_price ts r s (line ts r s apart late) u h)

-- a spread that plays i without a break is a pinned one
pub pins : (ts : List Ticket) (r : ℕ → ℕ) (i t : ℕ) (L : List Slot) → Spread ts r L → Unbroken ts i t L → PinnedSpread ts r i t L
pins ts r i t L u h = record { spread = looser ts r (put r i 0) L (λ j l. by j (cases_eq i j)) u; pinned = h }
  where
    by : (j : ℕ) → (i ≡ j) ⊎ (i ≡ j → ⊥) → put r i 0 j ≤ r j
    by j (inl e) = omega (arith, put_same r i 0 j e)
    by j (inr o) = omega (arith, put_other r i 0 j o)

pub plan_bounds : PlanBounds
plan_bounds ts rs s apart late =
    let p = plan_is_spread ts (release rs) s apart late in (
      (λ c h. omega (arith, h.least p.0 p.1, p.3)),
      (λ i c a h. omega (arith, h.least p.0 (pins ts (release rs) i (s i) p.0 p.1 (p.2 i a)), p.3)),
    )
