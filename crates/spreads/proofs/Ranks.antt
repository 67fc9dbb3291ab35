-- To compare w / p by products is to compare w * (720720 / p). Assumes nothing.
use Rattle.std.proofs.Common.{◌≡◌, ℕ, ◌*◌, ◌/◌, ◌<◌, ◌≤◌, ◌⊎◌, ap, inl, inr, mul-le-mul_right, arith}
use Rattle.std.proofs.lemmas.Bool.{cases_lt}
use Rattle.tickets.specs.declared.ticket.Ticket.{Ticket}
use Rattle.spreads.specs.Spreads.{ticket, value}
use Rattle.spreads.specs.Ranks.{Denser, RankByProducts}
use Rattle.spreads.proofs.Table.{divides}

-- a / p and b / q, for two lengths p and q
module _ (a p b q : ℕ) (p_some : 1 ≤ p) (p_short : p ≤ 16) (q_some : 1 ≤ q) (q_short : q ≤ 16) where
  pub from_products : a * q ≤ b * p → a * (720720 / p) ≤ b * (720720 / q)
  from_products e =
      let P : ℕ = 720720 / p in
      let Q : ℕ = 720720 / q in
      let u : a * q * (P * Q) ≤ b * p * (P * Q) = mul-le-mul_right (P * Q) e in
      let v : a * P * (Q * q) ≡ a * P * 720720 = ap (λ z. a * P * z) (divides q q_some q_short) in
      let w : b * Q * (P * p) ≡ b * Q * 720720 = ap (λ z. b * Q * z) (divides p p_some p_short) in
      omega (arith, u, v, w)

  pub to_products : a * (720720 / p) ≤ b * (720720 / q) → a * q ≤ b * p
  to_products e =
      let P : ℕ = 720720 / p in
      let Q : ℕ = 720720 / q in
      let u : a * P * (p * q) ≤ b * Q * (p * q) = mul-le-mul_right (p * q) e in
      let v : a * q * (P * p) ≡ a * q * 720720 = ap (λ z. a * q * z) (divides p p_some p_short) in
      let w : b * p * (Q * q) ≡ b * p * 720720 = ap (λ z. b * p * z) (divides q q_some q_short) in
      omega (arith, u, v, w)

pub rank_by_products : RankByProducts
rank_by_products ts i j = (there (cases_lt (value ts j) (value ts i)), back (cases_lt (y.weight * x.length) (x.weight * y.length)))
  where
    x : Ticket
    x = ticket ts i

    y : Ticket
    y = ticket ts j

    there : (value ts j < value ts i) ⊎ (value ts i ≤ value ts j) → Denser ts i j → value ts j < value ts i
    there (inl l) d = l
    there (inr l) d = absurd (omega (arith, to_products x.weight x.length y.weight y.length x.plays x.short y.plays y.short l))

    back : (y.weight * x.length < x.weight * y.length) ⊎ (x.weight * y.length ≤ y.weight * x.length) → value ts j < value ts i → Denser ts i j
    back (inl l) d = l
    back (inr l) d = absurd (omega (arith, from_products x.weight x.length y.weight y.length x.plays x.short y.plays y.short l))
