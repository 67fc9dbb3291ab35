-- A list of cuts, word by word. Assumes nothing.
use Rattle.std.proofs.Common.{◌≡◌, ℕ, ◌+◌, ◌*◌, ◌<◌, ◌≤◌, true, false, ◌≢◌, List, length, get_or, slice_index, set, sym, refl, ap, ◌∙◌, subst, ⊎_elim, arith, length-set}
use mathlib.Core.Path.{fun_ext}
use Rattle.std.proofs.lemmas.List.{get_or-set_other, get_or-set_same}
use Rattle.std.proofs.lemmas.Bool.{cases_eq, cases_lt, cases_Bool, both_ways}
use Rattle.std.proofs.lemmas.Bool.Decides.{nat_tests}
use Rattle.stores.specs.Sets.{Rows, Bounded, without, with, size_of}
use Rattle.stores.proofs.Counts.{count_mono, count_none}
use Rattle.spreads.proofs.Sums.{sum_le, sum_none}
use Rattle.runs.specs.Tables.{Setting}
use Rattle.runs.proofs.Starts.{starts_without}
use Rattle.planner.specs.Sets.{total}
use Rattle.planner.specs.Starts.{FirstAt}
use Rattle.planner.specs.Promise.{ListsCuts}
use Rattle.planner.proofs.Walking.{before, before_none, before_more}

-- ---- the words

-- the first k words of `new` are the starts of P as 256 * ticket + start, rising and below the bound, and those after are as in `old`
pub record Words (P : Rows) (bound : ℕ) (old new : List ℕ) (k : ℕ) : Type 0 where
  pub each : (i t : ℕ) → P i t ≡ true → (j : ℕ) × (j < k) × (slice_index new j ≡ 256 * i + t)
  pub only : (j : ℕ) → j < k → (i : ℕ) × (t : ℕ) × (P i t ≡ true) × (slice_index new j ≡ 256 * i + t)
  pub rising : (j l : ℕ) → j < l → l < k → slice_index new j < slice_index new l
  pub under : (j : ℕ) → j < k → slice_index new j < bound
  pub rest : (j : ℕ) → k ≤ j → slice_index new j ≡ slice_index old j
  pub fits : k ≤ length new
  pub same : length new ≡ length old

pub words_none : (P : Rows) (xs : List ℕ) → ((i t : ℕ) → P i t ≡ false) → Words P 0 xs xs 0
words_none P xs none = record {
  each = λ i t on. absurd (both_ways _ (none i t) on);
  only = λ j l. absurd (omega arith);
  rising = λ j l a b. absurd (omega arith);
  under = λ j l. absurd (omega arith);
  rest = λ j _. refl;
  fits = omega arith;
  same = refl;
}

-- one word more, for a start at or above the bound
pub words_more :
    (P : Rows) (bound row v : ℕ) (old new : List ℕ) (k : ℕ) → row < 24 → v < 256 → bound ≤ 256 * row + v → k < length new → Words P bound old new k →
    Words (with P row v) (256 * row + (v + 1)) old (set new k (256 * row + v)) (k + 1)
unfolding with
words_more P bound row v old new k in_row in_start above l so_far = record {
  each = λ i t on.
      ⊎_elim
      (λ (p : P i t ≡ true). let (j, m, is) = so_far.each i t p in (j, omega arith, other j (omega arith) ∙ is))
      (λ (p : P i t ≡ false).
      let same_row : i ≡ row = grind (arith, nat_tests) in
      let same_start : t ≡ v = grind (arith, nat_tests) in
      (k, omega arith, self ∙ (rw (same_row, same_start))))
      (cases_Bool (P i t));
  only = λ j m.
      ⊎_elim
      (λ (at : j ≡ k). (row, v, grind (arith, nat_tests), ap (λ n. get_or (set new k (256 * row + v)) n 0) at ∙ self))
      (λ (at : j ≡ k → ⊥).
      let (i, t, on, is) = so_far.only j (omega (arith, at)) in
      (i, t, grind (arith, nat_tests), other j (omega (arith, at)) ∙ is))
      (cases_eq j k);
  rising = λ j m a b.
      let first = other j (omega arith) in
      ⊎_elim
      (λ (at : m ≡ k). omega (arith, so_far.under j (omega arith), ap (λ n. get_or (set new k (256 * row + v)) n 0) at, self))
      (λ (at : m ≡ k → ⊥). omega (arith, other m (omega (arith, at)), so_far.rising j m a (omega (arith, at))))
      (cases_eq m k);
  under = λ j m.
      ⊎_elim
      (λ (at : j ≡ k). omega (arith, ap (λ n. get_or (set new k (256 * row + v)) n 0) at, self))
      (λ (at : j ≡ k → ⊥). omega (arith, other j (omega (arith, at)), so_far.under j (omega (arith, at))))
      (cases_eq j k);
  rest = λ j m. (let off : j ≢ k = omega arith in get_or-set_other new k j (256 * row + v) 0 off) ∙ so_far.rest j (omega arith);
  fits = simp length-set (omega arith);
  same = length-set new k (256 * row + v) ∙ so_far.same;
}
  where
    self : get_or (set new k (256 * row + v)) k 0 ≡ 256 * row + v
    self = get_or-set_same new k (256 * row + v) 0 l

    other : (j : ℕ) → j < k → get_or (set new k (256 * row + v)) j 0 ≡ get_or new j 0
    other j m = let off : j ≢ k = omega arith in get_or-set_other new k j (256 * row + v) 0 off

-- words that rise list each start once
listed : (P : Rows) (b : ℕ) (old new : List ℕ) (k : ℕ) → Words P b old new k → ListsCuts P old new k
listed P b old new k words = record {
  room = omega (arith, words.fits, words.same);
  each = words.each;
  only = words.only;
  once = λ j l a b e.
      ⊎_elim
      (λ (m : j < l). absurd (omega (arith, words.rising j l m b)))
      (λ (m : l ≤ j). ⊎_elim (λ (n : l < j). absurd (omega (arith, words.rising l j n a))) (λ (n : j ≤ l). omega arith) (cases_lt l j))
      (cases_lt j l);
  rest = words.rest;
  same = words.same;
}

-- ---- how many starts there are

-- 24 tickets, of which only the number counts
abbrev rows_24 : Setting
rows_24 = record { tickets = 24; first = λ _. 0; last = λ _. 0; supports = λ _ _ _ _. ⊥; affords = λ _ _. ⊥ }

total_none : (R : Rows) → ((i t : ℕ) → R i t ≡ false) → total R ≡ 0
unfolding total
total_none R none = sum_none 24 (λ i. size_of (R i)) (λ i _. count_none (R i) 256 (λ t _. none i t))

total_more : (G : Rows) (from to i t : ℕ) → Bounded G → FirstAt G from to i t → total (before G to) ≡ total (before G from) + 1
unfolding without with total
total_more G from to i t b first =
    let (in_row, in_start) = b i t first.held in
    let at = first.reached in
    let passed = first.passed in
    let on : before G to i t ≡ true = (let held = first.held in grind (arith, nat_tests)) in
    let out : without (before G to) i t ≡ before G from = fun_ext (λ j. fun_ext (λ u.
    let is : before G to j u ≡ with (before G from) i t j u = ap (λ (T : Rows). T j u) (before_more G from to i t b first) in
    ⊎_elim
    (λ (same : j ≡ i).
    ⊎_elim
    (λ (named : u ≡ t). grind (arith, nat_tests))
    (λ (named : u ≡ t → ⊥). grind (arith, nat_tests))
    (cases_eq u t))
    (λ (other : j ≡ i → ⊥). grind (arith, nat_tests))
    (cases_eq j i))) in
    starts_without rows_24 (before G to) i t (λ j u held. b j u (grind (arith, nat_tests))) in_row on ∙ ap (λ (T : Rows). total T + 1) out

-- before a start that is still to come there are fewer than in all
total_room : (G : Rows) (from to i t : ℕ) → Bounded G → FirstAt G from to i t → total (before G from) < total G
unfolding total
total_room G from to i t b first =
    let le : total (before G to) ≤ total G =
    sum_le 24 (λ j. size_of (before G to j)) (λ j. size_of (G j)) (λ j _. count_mono (before G to j) (G j) 256 (λ u _ on. grind (arith, nat_tests))) in
    omega (arith, total_more G from to i t b first)

-- ---- the words so far

-- the starts of G before a place are listed in the first k words
pub record Listed (G : Rows) (place : ℕ) (old new : List ℕ) (k : ℕ) : Type 0 where
  pub words : Words (before G place) place old new k
  pub many : k ≡ total (before G place)

pub listed_none : (G : Rows) (xs : List ℕ) → Listed G 0 xs xs 0
listed_none G xs = record { words = words_none _ xs (before_none G); many = sym (total_none _ (before_none G)) }

pub listed_room :
    (G : Rows) (from to i t : ℕ) (old new : List ℕ) (k : ℕ) → Bounded G → total G ≤ length old → FirstAt G from to i t → Listed G from old new k → k < length new
listed_room G from to i t old new k b room first so_far = omega (arith, total_room G from to i t b first, so_far.many, so_far.words.same)

pub listed_more :
    (G : Rows) (from to i t : ℕ) (old new : List ℕ) (k : ℕ) → Bounded G → k < length new → FirstAt G from to i t → Listed G from old new k →
    Listed G to old (set new k (256 * i + t)) (k + 1)
listed_more G from to i t old new k b l first so_far =
    let (in_row, in_start) = b i t first.held in
    let step = words_more (before G from) from i t old new k in_row in_start first.reached l so_far.words in
    record {
      words = rw (before_more G from to i t b first, first.passed) step;
      many = omega (arith, so_far.many, total_more G from to i t b first);
    }

-- no start is left
pub listed_all : (G : Rows) (place : ℕ) (old new : List ℕ) (k : ℕ) → before G place ≡ G → Listed G place old new k → ListsCuts G old new (total G)
listed_all G place old new k all so_far =
    let many : k ≡ total G = so_far.many ∙ ap total all in
    subst (λ n. ListsCuts G old new n) many (subst (λ (P : Rows). ListsCuts P old new k) all (listed _ place old new k so_far.words))
