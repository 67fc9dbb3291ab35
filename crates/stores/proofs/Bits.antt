-- The bits of a word: one test, one bit more, one bit less. Assumes nothing.
use Rattle.std.specs.Prelude.{◌≡◌, ℕ, ◌+◌, ◌-◌, ◌*◌, ◌/◌, ◌%◌, ◌^◌, ◌<◌, ◌≤◌, false, not, ◌&&◌, ◌||◌, ◌==◌, nat_eq}
use Rattle.std.proofs.Common.{sym, ap, ◌∙◌, ⊎_elim, arith}
use Rattle.std.specs.Int.Bits.{bit_and, bit_or}
use Rattle.std.specs.Int.{bit_at}
use Rattle.std.proofs.lemmas.Nat.{shl-shr, shr-shr, pow_below, one_shl, and-not}
use Rattle.std.proofs.lemmas.Nat.Bits.{bit_at-lt, bit_at-zero, bit_at_and, bit_at_or, bit_at-pow_same, bit_at-pow_other, bit_at_above, shr_and_one, and_pow}
use Rattle.std.proofs.lemmas.Bool.{cases_lt}
use Rattle.std.proofs.lemmas.Bool.Decides.{nat_tests}
use Rattle.stores.specs.Words.{bit}

bit_of_or : (a b k : ℕ) → bit (bit_or a b) k ≡ (bit a k || bit b k)
unfolding bit
bit_of_or a b k = rw (bit_at_or a b k) (grind (arith, nat_tests, bit_at-lt a k, bit_at-lt b k))

bit_of_and : (a b k : ℕ) → bit (bit_and a b) k ≡ (bit a k && bit b k)
unfolding bit
bit_of_and a b k = rw (bit_at_and a b k) (grind (arith, nat_tests, bit_at-lt a k, bit_at-lt b k))

-- the bits of `!x`
bit_not : (n x j : ℕ) → x < 2 ^ n → j < n → bit ((2 ^ n - 1) - x) j ≡ not (bit x j)
unfolding bit
bit_not n x j fits l =
    let both = and-not n x (2 ^ j) fits (pow_below j n l) in
    let sum = bit_at ((2 ^ n - 1) - x) j + bit_at x j in
    let whole : sum * 2 ^ j ≡ 1 * 2 ^ j = omega (arith, both, and_pow ((2 ^ n - 1) - x) j, and_pow x j) in
    let one : sum ≡ 1 = sym (shl-shr sum j) ∙ ap (λ v. v / 2 ^ j) whole ∙ shl-shr 1 j in
    grind (arith, nat_tests)

-- the bits of a power
bit_pow : (k j : ℕ) → bit (2 ^ k) j ≡ (j == k)
unfolding bit
bit_pow k j = grind (arith, nat_tests, bit_at-pow_same k, bit_at-pow_other k j)

pub bit_zero : (k : ℕ) → bit 0 k ≡ false
unfolding bit
bit_zero k = rw (bit_at-zero k)

-- the bits of `n >> s`
pub bit_shr : (n s j : ℕ) → bit (n / 2 ^ s) j ≡ bit n (s + j)
unfolding bit
bit_shr n s j = ap (λ x. nat_eq (x % 2) 1) (shr-shr n s j)

-- a number below 2 ^ n has no bit from n on
pub bit_past : (n w j : ℕ) → w < 2 ^ n → n ≤ j → bit w j ≡ false
unfolding bit
bit_past n w j fits l = rw (bit_at_above w n j fits l)

-- `(w >> k) & 1 == 1`
pub bit_test : (w k : ℕ) → (bit_and (w / 2 ^ k) 1 == 1) ≡ bit w k
unfolding bit
bit_test w k = rw (shr_and_one w k)

-- `w | (1 << k)`
pub bit_set : (w k j : ℕ) → k < 64 → bit (bit_or w ((1 * 2 ^ k) % 2 ^ 64)) j ≡ (bit w j || j == k)
bit_set w k j h = rw (one_shl k 64 h, bit_of_or w (2 ^ k) j, bit_pow k j)

-- `w & !(1 << k)`
pub bit_clear : (w k j : ℕ) → w < 2 ^ 64 → k < 64 → bit (bit_and w ((2 ^ 64 - 1) - (1 * 2 ^ k) % 2 ^ 64)) j ≡ (bit w j && not (j == k))
bit_clear w k j fits h =
    rw (one_shl k 64 h, bit_of_and w ((2 ^ 64 - 1) - 2 ^ k) j) (⊎_elim
    (λ (l : j < 64). rw (bit_not 64 (2 ^ k) j (pow_below k 64 h) l, bit_pow k j))
    (λ (l : 64 ≤ j). rw (bit_past 64 w j fits l))
    (cases_lt j 64))
