-- How large the terms of a price can be. Assumes nothing.
use Rattle.std.proofs.Common.{◌≡◌, ℕ, ◌+◌, ◌-◌, ◌*◌, ◌/◌, ◌≤◌, List, length, get_or, mul-le-mul, arith}
use Rattle.std.proofs.lemmas.List.Sums.{sum_by-le}
use Rattle.spreads.specs.Quotient.{Quotient}
use Rattle.spreads.proofs.Table.{is_quotient}
use Rattle.spreads.proofs.Onward.{slots_from}
use Rattle.pricing.specs.declared.work.Work.{Work}
use Rattle.pricing.specs.Terms.{slots_between, half_of, most_half, halves_of}

pub slots_is : (s t : ℕ) → ((t - s) * (2 * s + (t - s)) - (t - s)) / 2 ≡ slots_between s t
slots_is s t = omega (arith, slots_from s (t - s))

pub half_le : (x : Work) → half_of x ≤ most_half
half_le x =
    let short : x.length + 1 ≤ 17 = omega (arith, x.short) in
    omega (arith, mul-le-mul x.light short)

pub halves_le : (xs : List Work) → length xs ≤ 24 → halves_of xs ≤ 24 * most_half
halves_le xs few = let m : halves_of xs ≤ length xs * most_half = sum_by-le half_of most_half xs (λ i d h. half_le (get_or xs i d)) in omega arith

-- the quotient of an entry's length
pub quotient_value : (x : Work) (q : ℕ) → Quotient x.length q → q ≡ 720720 / x.length
quotient_value x q is = is_quotient x.length q x.plays (is.exact x.plays x.short)
