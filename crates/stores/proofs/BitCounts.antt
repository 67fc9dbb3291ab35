-- How many bits of a word are set, and which is the first. Assumes nothing.
use Rattle.std.proofs.Common.{◌≡◌, ℕ, zero, suc, ◌+◌, ◌-◌, ◌/◌, ◌%◌, ◌^◌, ◌<◌, ◌≤◌, Some, None, true, sym, ap, ◌∙◌, subst, ⊎_elim, arith}
use lib.Count.{ones, ones_step, ones-le, count_trailing_zeros}
use Rattle.std.specs.Int.{w64}
use Rattle.std.proofs.lemmas.Nat.{pow-add, shr_below}
use Rattle.std.proofs.lemmas.Nat.Bits.{bit_at-trailing_zeros}
use Rattle.std.proofs.lemmas.Bool.{both_ways, cases_lt}
use Rattle.std.proofs.lemmas.Bool.Decides.{nat_tests}
use Rattle.stores.specs.Sets.{count}
use Rattle.stores.specs.Words.{bit, FirstBit}
use Rattle.stores.proofs.Counts.{count_same, count_add, count_most}
use Rattle.stores.proofs.Bits.{bit_zero, bit_shr, bit_past}

low_count : (n : ℕ) → count (bit n) 1 ≡ n % 2
unfolding count bit
low_count n = grind (arith, nat_tests)

-- the count of ones is the count of bits that are set
pub ones_count : (k n : ℕ) → n < 2 ^ k → ones n ≡ count (bit n) k
ones_count zero n h = omega (arith, ones-le 0 n h, count_most (bit n) 0)
ones_count (suc k) n h =
    let p = pow-add 2 k 1 in
    let e : 1 + k ≡ suc k = omega arith in
    let rest = ones_count k (n / 2) (let z : 2 ^ (k + 1) ≡ 2 ^ suc k = ap (λ x. 2 ^ x) (omega arith) in omega arith) in
    let cut = count_add (bit n) 1 k in
    let same = count_same (λ j. bit n (1 + j)) (bit (n / 2)) k (λ j _. sym (bit_shr n 1 j)) in
    omega (arith, ones_step n, low_count n, ap (count (bit n)) e)

-- bit k of w, seen from `from` on
bit_from : (w from k : ℕ) → from ≤ k → bit w k ≡ bit (w / 2 ^ from) (k - from)
bit_from w from k l = ap (bit w) (omega arith) ∙ sym (bit_shr w from (k - from))

pub first_none : (w from : ℕ) → w / 2 ^ from ≡ 0 → FirstBit (bit w) from None
first_none w from z k l h = bit_from w from k l ∙ ap (λ x. bit x (k - from)) z ∙ bit_zero (k - from)

pub first_some : (w from : ℕ) → w < 2 ^ 64 → from < 64 → 0 < w / 2 ^ from → FirstBit (bit w) from (Some (from + count_trailing_zeros 64 (w / 2 ^ from)))
unfolding bit
first_some w from fits l pos =
    let rest = w / 2 ^ from in
    let zeros = count_trailing_zeros 64 rest in
    let few : rest < 2 ^ (64 - from) = shr_below w (64 - from) from (let e : 64 ≡ 64 - from + from = omega arith in subst (λ x. w < 2 ^ x) e fits) in
    let lowest = bit_at-trailing_zeros w64 rest pos (omega arith) in
    let on : bit rest zeros ≡ true = rw lowest.1 in
    let below : zeros < 64 - from = ⊎_elim
    (λ (p : zeros < 64 - from). p)
    (λ (p : 64 - from ≤ zeros). absurd (both_ways (bit rest zeros) (bit_past (64 - from) rest zeros few p) on))
    (cases_lt zeros (64 - from)) in (
      record {
        reached = omega arith;
        held = sym (bit_shr w from zeros) ∙ on;
        gap = λ k p q. bit_from w from k p ∙ rw (lowest.2 (k - from) (omega arith));
      },
      omega arith,
    )
