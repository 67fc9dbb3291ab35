-- What a bit store holds, and what it holds after one row is written. Assumes nothing.
use Rattle.std.specs.Prelude.{◌≡◌, ℕ, ◌+◌, ◌*◌, ◌/◌, ◌%◌, ◌<◌, ◌≤◌, false, not, ◌&&◌, ◌||◌, List, length, take, replicate, ◌==◌, zero, suc, nat_lt, slice_index, slice_index_or, slice_set, refl}
use Rattle.std.proofs.Common.{sym, ap, add-one, ◌∙◌, arith}
use Rattle.std.proofs.Math.Path.{fun_ext}
use Rattle.std.proofs.lemmas.List.{take_all, get_or_default, get_or-set_other, get_or-set_same, get_or-replicate, get_or_past, length-replicate}
use Rattle.std.specs.List.{sum_by}
use Rattle.std.proofs.lemmas.List.Sums.{sum_by_more}
use Rattle.std.proofs.lemmas.Bool.Decides.{nat_tests}
use Rattle.std.proofs.lemmas.Bool.{lt-ltb, le-ltb}
use Rattle.stores.specs.Sets.{no_starts, without, with, count, size_of}
use Rattle.stores.specs.Words.{bit}
use Rattle.stores.specs.BitRows.{starts_of, no_row, bit_rows}
use Rattle.stores.specs.declared.row.Row.{Row}
use Rattle.stores.specs.declared.bit_store.BitStore.{BitStore}
use Rattle.stores.proofs.Counts.{count_same, count_add}
use Rattle.stores.proofs.Bits.{bit_zero}

-- ---- one row

zero_word : (n q : ℕ) → ◌≡◌ {A = ℕ} (slice_index (replicate n 0) q) 0
zero_word n q = grind (arith, get_or-replicate {A = ℕ} n q 0 0, get_or_past {X = ℕ} (replicate n 0) q 0, length-replicate {A = ℕ} n 0)

-- words that are all 0 hold no start
pub starts_none : (r : Row) → r.words ≡ replicate 4 0 → (t : ℕ) → starts_of r t ≡ false
starts_none r e t = rw (e, zero_word 4 (t / 64), bit_zero (t % 64)) (grind arith)

-- the starts of one word
word_count : (r : Row) (q : ℕ) → q < 4 → count (λ k. starts_of r (64 * q + k)) 64 ≡ count (bit (slice_index r.words q)) 64
word_count r q h =
    count_same (λ k. starts_of r (64 * q + k)) (bit (slice_index r.words q)) 64
    (λ k l.
    let d : (64 * q + k) / 64 ≡ q = omega arith in
    let m : (64 * q + k) % 64 ≡ k = omega arith in
    rw (lt-ltb (64 * q + k) 256 (omega arith), d, m))

-- one word more
pub count_more : (r : Row) (q : ℕ) → q < 4 → count (starts_of r) (64 * (q + 1)) ≡ count (starts_of r) (64 * q) + count (bit (slice_index r.words q)) 64
count_more r q h =
    let e : 64 * (q + 1) ≡ 64 * q + 64 = omega arith in
    ap (count (starts_of r)) e ∙ count_add (starts_of r) (64 * q) 64 ∙ ap (λ n. count (starts_of r) (64 * q) + n) (word_count r q h)

-- the starts of the first n words
words_count : (r : Row) (n : ℕ) → n ≤ 4 → length r.words ≡ 4 → sum_by (λ w. count (bit w) 64) (take n r.words) ≡ count (starts_of r) (64 * n)
unfolding count
words_count r zero l e = refl
words_count r (suc n) l e =
    rw (← add-one n) (sum_by_more (λ w. count (bit w) 64) r.words n 0 (omega arith)
    ∙ (let rest = words_count r n (omega arith) e in omega (arith, count_more r n (omega arith))))

-- the starts of all words
pub size_words : (r : Row) → length r.words ≡ 4 → sum_by (λ w. count (bit w) 64) r.words ≡ size_of (starts_of r)
size_words r e = ap (sum_by (λ w. count (bit w) 64)) (sym (take_all 4 r.words (omega arith))) ∙ words_count r 4 (omega arith) e

-- ---- all rows

-- a row, where one that holds nothing stands past the end
pub row_held : (s : BitStore) (r : Row) → length s.rows ≡ 24 → r.words ≡ replicate 4 0 → (i t : ℕ) → starts_of (slice_index_or s.rows i r) t ≡ bit_rows s i t
unfolding bit_rows
row_held s r n e i t = grind (arith, nat_tests, get_or_default s.rows i r no_row, get_or_past s.rows i r, starts_none r e t)

pub rows_in : (s : BitStore) (i t : ℕ) → i < 24 → bit_rows s i t ≡ starts_of (slice_index_or s.rows i no_row) t
unfolding bit_rows
rows_in s i t l = rw (lt-ltb i 24 l)

pub rows_past : (s : BitStore) (i t : ℕ) → 24 ≤ i → bit_rows s i t ≡ false
unfolding bit_rows
rows_past s i t l = rw (le-ltb i 24 l)

pub rows_none : (r : Row) → ((t : ℕ) → starts_of r t ≡ false) → bit_rows (record { rows = replicate 24 r }) ≡ no_starts
unfolding bit_rows
rows_none r h = fun_ext (λ i. fun_ext (λ t. grind (arith, nat_tests, get_or-replicate 24 i r no_row, h t)))

-- one row is written: one start less in it, or one more
pub rows_without : (xs : List Row) (row start : ℕ) (r : Row) → row < length xs → row < 24 → ((t : ℕ) → starts_of r t ≡ (starts_of (slice_index_or xs row no_row) t && not (t == start))) → bit_rows (record { rows = slice_set xs row r }) ≡ without (bit_rows (record { rows = xs })) row start
unfolding bit_rows without
rows_without xs row start r fits l h =
    fun_ext (λ i. fun_ext (λ t. grind (arith, nat_tests, h t, get_or-set_same xs row r no_row fits, get_or-set_other xs row i r no_row)))

pub rows_with : (xs : List Row) (row start : ℕ) (r : Row) → row < length xs → row < 24 → ((t : ℕ) → starts_of r t ≡ (starts_of (slice_index_or xs row no_row) t || (nat_lt start 256 && t == start))) → bit_rows (record { rows = slice_set xs row r }) ≡ with (bit_rows (record { rows = xs })) row start
unfolding bit_rows with
rows_with xs row start r fits l h =
    fun_ext (λ i. fun_ext (λ t. grind (arith, nat_tests, h t, get_or-set_same xs row r no_row fits, get_or-set_other xs row i r no_row)))
