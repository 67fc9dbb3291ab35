-- Tables by the ends of their rows, and rounds of pruning computed on them. Assumes nothing.
use Rattle.std.proofs.Common.{◌≡◌, ℕ, suc, ◌+◌, ◌-◌, ◌*◌, ◌<◌, ◌≤◌, Bool, true, false, ◌&&◌, ◌||◌, eqb, ltb, leb, List, ◌++◌, map, length, get_or, replicate, sym, ◌∙◌, subst, ⊎_elim, arith}
use mathlib.Core.Path.{fun_ext}
use lib.ListN.{length-map, get_or-map}
use Rattle.std.proofs.lemmas.List.{get_or_append_left}
use Rattle.std.proofs.lemmas.Bool.{cases_Bool, and_parts, and_from, and_left, and_right, or_cases, eqb-true, leb-true, ltb-true, lt-ltb, le-leb, lt-leb}
use Rattle.tickets.specs.declared.ticket.Ticket.{Ticket}
use Rattle.stores.specs.Sets.{Earliest}
use Rattle.spreads.specs.Lines.{slot_sum}
use Rattle.spreads.specs.Spreads.{blank, ticket, value, half, release}
use Rattle.spreads.proofs.Sums.{sum_none}
use Rattle.spreads.proofs.Exists.{pinned_price, pinned_price_is}
use Rattle.runs.specs.Tables.{Table, posted, Within, SelfSupporting, Narrowed, NoneWithin, Largest}
use Rattle.runs.specs.Supports.{setting}
use Rattle.runs.proofs.Tables.{Early, within_early, self_early}
use Rattle.runs.proofs.Supports.{laws, priced}
use Rattle.runs.proofs.Pruning.{narrowed_none, narrowed_empty, narrowed_largest}
use Rattle.figures.specs.Worked.{Ends, table}
use Rattle.figures.proofs.Ranges.{all_from, passes, passes_below}

-- the first and the last start of row i
abbrev pub first : Ends → ℕ → ℕ
first rows i = (get_or rows i (0, 0)).0

abbrev pub last : Ends → ℕ → ℕ
last rows i = (get_or rows i (0, 0)).1

-- the first starts, and 0 for the other numbers up to 23
abbrev pub firsts : Ends → List ℕ
firsts rows = map (λ x. x.0) rows ++ replicate (24 - length rows) 0

-- the ends of a ticket's row as posted
abbrev end : Ticket → ℕ × ℕ
end x = (x.first, x.last)

abbrev pub ends : List Ticket → Ends
ends ts = map end ts

pub ends_count : (ts : List Ticket) → length (ends ts) ≡ length ts
ends_count ts = length-map ts end

pub posted_is : (ts : List Ticket) → posted (setting ts) ≡ table (ends ts)
posted_is ts = fun_ext (λ i. fun_ext (λ t. rw (ends_count ts, get_or-map end ts i blank)))

firsts_here : (rows : Ends) (i : ℕ) → i < length rows → release (firsts rows) i ≡ first rows i
firsts_here rows i l = get_or_append_left (map (λ x. x.0) rows) _ 0 i (rw length-map l) ∙ get_or-map (λ x. x.0) rows i (0, 0)

held : (rows : Ends) (i t : ℕ) → i < length rows → first rows i ≤ t → t ≤ last rows i → table rows i t ≡ true
held rows i t l p q = and_from _ _ (lt-ltb i (length rows) l) (and_from _ _ (le-leb (first rows i) t p) (le-leb t (last rows i) q))

held_parts : (rows : Ends) (i t : ℕ) → table rows i t ≡ true → (i < length rows) × (first rows i ≤ t) × (t ≤ last rows i)
held_parts rows i t e =
    let (l, rest) = and_parts (ltb i (length rows)) (leb (first rows i) t && leb t (last rows i)) e in
    let (p, q) = and_parts (leb (first rows i) t) (leb t (last rows i)) rest in
    (ltb-true i (length rows) l, leb-true (first rows i) t p, leb-true t (last rows i) q)

earliest : (rows : Ends) (i : ℕ) → i < length rows → first rows i ≤ last rows i → Earliest (table rows i) 0 (release (firsts rows) i)
earliest rows i l some =
    subst
    (Earliest (table rows i) 0)
    (sym (firsts_here rows i l))
    (record {
      reached = omega arith;
      held = held rows i (first rows i) l (omega arith) some;
      gap = λ t _ m. and_right _ _ (and_left _ _ (lt-leb (first rows i) t m));
    })

module _ (ts : List Ticket) where
  -- a test of each row, and of each start of each row
  abbrev each_row : (ℕ → Bool) → Bool
  each_row f = all_from 0 (length ts) f

  abbrev starts_of : Ends → (ℕ → ℕ → Bool) → ℕ → Bool
  starts_of rows f i = all_from (first rows i) (suc (last rows i) - first rows i) (f i)

  each_passes :
      (rows : Ends) (f : ℕ → ℕ → Bool) → length rows ≡ length ts → each_row (starts_of rows f) ≡ true →
      (i t : ℕ) → table rows i t ≡ true → f i t ≡ true
  each_passes rows f n e i t on =
      let (l, p, q) = held_parts rows i t on in
      let row = passes_below (length ts) (starts_of rows f) e i (omega arith) in
      passes (first rows i) (suc (last rows i) - first rows i) (f i) row t p (omega arith)

  -- row i is not empty
  abbrev some : Ends → ℕ → Bool
  some rows i = leb (first rows i) (last rows i)

  abbrev pub filled : Ends → Bool
  filled rows = each_row (some rows)

  pub filled_first :
      (rows : Ends) → length rows ≡ length ts → filled rows ≡ true → (i : ℕ) → i < length ts → Earliest (table rows i) 0 (release (firsts rows) i)
  filled_first rows n e i l = earliest rows i (omega arith) (leb-true (first rows i) (last rows i) (passes_below (length ts) (some rows) e i l))

  -- the price of ticket i pinned at t, by the first starts of the rows
  abbrev price_at : Ends → ℕ → ℕ → ℕ
  price_at rows i t = pinned_price ts (firsts rows) i t

  module _ (U : ℕ) where
    -- the start is in `left`, or it is too dear
    abbrev in_or_dear : Ends → Ends → ℕ → ℕ → Bool
    in_or_dear rows left i t = table left i t || ltb (720720 * U) (price_at rows i t)

    -- row i of `left` is within that of `rows`
    abbrev inner : Ends → Ends → ℕ → Bool
    inner rows left i = leb (first rows i) (first left i) && leb (last left i) (last rows i)

    -- what a round cuts of the rows is all of them that is not in `left`, or more
    abbrev pub cut_to : Ends → Ends → Bool
    cut_to rows left = each_row (inner rows left) && each_row (starts_of rows (in_or_dear rows left))

    inner_within :
        (rows left : Ends) → length rows ≡ length ts → length left ≡ length ts → each_row (inner rows left) ≡ true → Within (table left) (table rows)
    inner_within rows left n m e i t on =
        let (l, p, q) = held_parts left i t on in
        let (a, b) = and_parts (leb (first rows i) (first left i)) _ (passes_below (length ts) (inner rows left) e i (omega arith)) in
        held rows i t (omega arith) (omega (arith, leb-true (first rows i) (first left i) a)) (omega (arith, leb-true (last left i) (last rows i) b))

    early : (rows : Ends) → length rows ≡ length ts → Early (setting ts) (table rows) (release (firsts rows))
    early rows n i t l on = let (m, p, _) = held_parts rows i t on in omega (arith, firsts_here rows i m, p)

    -- a round keeps every self-supporting table
    round_keeps :
        (rows left : Ends) → length rows ≡ length ts → each_row (starts_of rows (in_or_dear rows left)) ≡ true →
        (T : Table) → SelfSupporting (setting ts) U T → Within T (table rows) → Within T (table left)
    round_keeps rows left n e T self in_rows i t on =
        let l : i < length ts = let (k, _, _) = held_parts rows i t (in_rows i t on) in omega arith in
        let supported = self_early (setting ts) (laws ts) self (within_early (setting ts) in_rows (early rows n)) i t l on in
        let low = (priced ts (firsts rows) i t (price_at rows i t) U (pinned_price_is ts (firsts rows) i t l)).0 supported in
        ⊎_elim
        (λ (h : table left i t ≡ true). h)
        (λ (d : ltb (720720 * U) (price_at rows i t) ≡ true). absurd (omega (arith, low, ltb-true (720720 * U) (price_at rows i t) d)))
        (or_cases (table left i t) _ (each_passes rows (in_or_dear rows left) n e i t (in_rows i t on)))

    -- rounds begin with the posted rows
    pub begin : Narrowed (setting ts) U (posted (setting ts)) (table (ends ts))
    begin = subst (Narrowed (setting ts) U (posted (setting ts))) (posted_is ts) (narrowed_none (setting ts) U (posted (setting ts)))

    module _ (S : Table) (rows : Ends) (n : length rows ≡ length ts) (so_far : Narrowed (setting ts) U S (table rows)) where
      pub round : (left : Ends) → length left ≡ length ts → cut_to rows left ≡ true → Narrowed (setting ts) U S (table left)
      round left m e =
          let (a, b) = and_parts (each_row (inner rows left)) (each_row (starts_of rows (in_or_dear rows left))) e in
          record {
            within = λ i t on. so_far.within i t (inner_within rows left n m a i t on);
            keeps = λ T self in_s. round_keeps rows left n b T self (so_far.keeps T self in_s);
          }

      -- an empty row shows that there is no self-supporting table
      pub emptied : (i : ℕ) → i < length ts → last rows i < first rows i → NoneWithin (setting ts) U S
      emptied i l e = narrowed_empty (setting ts) U S (table rows) so_far i l none
        where
          none : (t : ℕ) → table rows i t ≡ false
          none t =
              ⊎_elim
              (λ (on : table rows i t ≡ true). let (_, p, q) = held_parts rows i t on in absurd (omega arith))
              (λ (off : table rows i t ≡ false). off)
              (cases_Bool (table rows i t))

    -- no start is too dear
    abbrev Cheap : Ends → Type 0
    Cheap rows = (i t : ℕ) → i < length ts → table rows i t ≡ true → price_at rows i t ≤ 720720 * U

    abbrev cheap : Ends → ℕ → ℕ → Bool
    cheap rows i t = leb (price_at rows i t) (720720 * U)

    pub all_cheap : (rows : Ends) → length rows ≡ length ts → each_row (starts_of rows (cheap rows)) ≡ true → Cheap rows
    all_cheap rows n e i t l on = leb-true (price_at rows i t) (720720 * U) (each_passes rows (cheap rows) n e i t on)

    -- no ticket has a weight
    abbrev light : ℕ → Bool
    light i = eqb (ticket ts i).weight 0

    -- then each price is 0
    pub no_weight : (rows : Ends) → each_row light ≡ true → Cheap rows
    no_weight rows e i t l on =
        let (L, _, is) = (pinned_price_is ts (firsts rows) i t l).met in
        let none : (j : ℕ) → j < length ts → (ticket ts j).weight ≡ 0 = λ j m. eqb-true _ 0 (passes_below (length ts) light e j m) in
        omega (arith, is, sum_none (length ts) (λ j. value ts j * slot_sum L j + half ts j) (λ j m. rw (none j m) (omega arith)))

    -- rows that a round leaves alone, and none of which is empty, are the largest
    pub largest :
        (S : Table) (rows : Ends) → length rows ≡ length ts → Narrowed (setting ts) U S (table rows) → filled rows ≡ true → Cheap rows →
        Largest (setting ts) U S (table rows)
    largest S rows n so_far e low =
        narrowed_largest (setting ts) U S (table rows) so_far (release (firsts rows)) (filled_first rows n e)
        (λ i t l on. (priced ts (firsts rows) i t (price_at rows i t) U (pinned_price_is ts (firsts rows) i t l)).1 (low i t l on))

    -- where a round leaves the posted rows alone, nothing is cut
    pub uncut : filled (ends ts) ≡ true → Cheap (ends ts) → Largest (setting ts) U (posted (setting ts)) (posted (setting ts))
    uncut e low =
        subst (Largest (setting ts) U (posted (setting ts))) (sym (posted_is ts)) (largest (posted (setting ts)) (ends ts) (ends_count ts) begin e low)
