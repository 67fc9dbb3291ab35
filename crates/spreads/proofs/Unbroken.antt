-- A ticket that plays without a break, and the price of a spread without breaks. Assumes nothing.
use Rattle.std.proofs.Common.{◌≡◌, ℕ, suc, ◌+◌, ◌*◌, ◌/◌, ◌<◌, ◌≤◌, ◌⊎◌, List, length, refl, ap, ◌∙◌, inl, inr, arith}
use Rattle.tickets.specs.declared.ticket.Ticket.{Ticket}
use Rattle.spreads.specs.Lines.{Slot, playing, slot, amount, amounts, slot_sum}
use Rattle.spreads.specs.Spreads.{ticket, Spread, value, half}
use Rattle.spreads.specs.Pinned.{Unbroken}
use Rattle.spreads.specs.Plans.{UnbrokenPrice}
use Rattle.spreads.proofs.Sums.{sum_same, sum_times, terms_same}
use Rattle.spreads.proofs.Slots.{amount_same}
use Rattle.spreads.proofs.Lines.{slot_sum_to, played_all}
use Rattle.spreads.proofs.Stretches.{inside, inside_cases, count_inside, sum_inside}
use Rattle.spreads.proofs.Table.{divides}

-- a ticket that plays without a break from t on plays in t to t + p - 1 and nowhere else
module _ (ts : List Ticket) (r : ℕ → ℕ) (L : List Slot) (s : Spread ts r L) (i t : ℕ) (known : i < length ts) (h : Unbroken ts i t L) where
  pub unbroken_exact : (k : ℕ) → inside t (ticket ts i).length k ≡ amounts L i k
  unbroken_exact k =
      let p : ℕ = (ticket ts i).length in
      let n : ℕ = length L + (t + p) + suc k in
      terms_same n (inside t p) (amounts L i) (λ k _. at k (inside_cases t p k)) (omega (arith, played_all ts r L s i n known (omega arith), count_inside t p n)) k (omega arith)
    where
      at : (k : ℕ) → (inside t (ticket ts i).length k ≡ 0) ⊎ ((inside t (ticket ts i).length k ≡ 1) × (t ≤ k) × (k < t + (ticket ts i).length)) → inside t (ticket ts i).length k ≤ amounts L i k
      at k (inl e) = omega arith
      at k (inr e) = omega (arith, e.0, ap (amount i) (h k e.1 e.2) ∙ amount_same i i refl)

  -- so the sum of its slots is known
  pub unbroken_sum : 2 * slot_sum L i + (ticket ts i).length ≡ (ticket ts i).length * (2 * t + (ticket ts i).length)
  unbroken_sum =
      let p : ℕ = (ticket ts i).length in
      let n : ℕ = length L + (t + p) in
      let same = sum_same n (λ k. inside t p k * k) (λ k. amounts L i k * k) (λ k _. ap (λ x. x * k) (unbroken_exact k)) in
      omega (arith, same, slot_sum_to L i n (omega arith), sum_inside t p n (omega arith))

  pub unbroken_alone : (k : ℕ) → slot L k ≡ playing i → (t ≤ k) × (k < t + (ticket ts i).length)
  unbroken_alone k e = by (inside_cases t (ticket ts i).length k)
    where
      by : (inside t (ticket ts i).length k ≡ 0) ⊎ ((inside t (ticket ts i).length k ≡ 1) × (t ≤ k) × (k < t + (ticket ts i).length)) → (t ≤ k) × (k < t + (ticket ts i).length)
      by (inl z) = absurd (omega (arith, z, unbroken_exact k, ap (amount i) e ∙ amount_same i i refl))
      by (inr z) = (z.1, z.2)

-- the price of one ticket with the start s, where m is the sum of its slots
ticket_price : (w q p s m : ℕ) → q * p ≡ 720720 → 2 * m + p ≡ p * (2 * s + p) → w * q * m + w * (p + 1) * 360360 ≡ 720720 * (w * (s + p))
ticket_price w q p s m e f = omega (arith, ap (λ z. w * q * z) f, ap (λ z. w * z) e, ap (λ z. w * s * z) e, ap (λ z. w * p * z) e)

pub unbroken_price : UnbrokenPrice
unbroken_price ts r s L h u =
    let n : ℕ = length ts in
    let end : ℕ → ℕ = λ i. (ticket ts i).weight * (s i + (ticket ts i).length) in
    let one : (i : ℕ) → i < n → value ts i * slot_sum L i + half ts i ≡ 720720 * end i = λ i l.
    let x = ticket ts i in
    ticket_price x.weight (720720 / x.length) x.length (s i) (slot_sum L i) (divides x.length x.plays x.short) (unbroken_sum ts r L h i (s i) l (u i l)) in
    sum_same n (λ i. value ts i * slot_sum L i + half ts i) (λ i. 720720 * end i) one ∙ sum_times n 720720 end
