-- The floor of a table, computed from the ends of its rows. Assumes nothing.
use Rattle.std.proofs.Common.{◌≡◌, ℕ, ◌+◌, ◌-◌, ◌*◌, ◌<◌, ◌≤◌, Bool, true, ◌&&◌, ltb, leb, List, map, length, replicate, sym, ◌∙◌, subst, inr, ⊎_elim, arith, length-append}
use lib.ListN.{length-map, length-replicate, get_or-replicate}
use Rattle.std.proofs.lemmas.List.{get_or-append_right, get_or_past}
use Rattle.std.proofs.lemmas.Bool.{and_parts, leb-true, ltb-true, cases_lt}
use Rattle.tickets.specs.declared.ticket.Ticket.{Ticket}
use Rattle.spreads.specs.Spreads.{release}
use Rattle.spreads.proofs.Exists.{free_price, free_price_is}
use Rattle.stores.specs.Sets.{Rows}
use Rattle.runs.specs.Tables.{posted}
use Rattle.runs.specs.Supports.{setting}
use Rattle.queries.specs.TablePrices.{FloorAnswer}
use Rattle.figures.specs.Worked.{Ends, table}
use Rattle.figures.proofs.Rounds.{firsts, ends, ends_count, posted_is, filled, filled_first}

zeros : (n i : ℕ) → release (replicate n 0) i ≡ 0
zeros n i =
    ⊎_elim (λ (l : i < n). get_or-replicate n i 0 0 l) (λ (l : n ≤ i). get_or_past (replicate n 0) i 0 (rw length-replicate l)) (cases_lt i n)

firsts_past : (rows : Ends) (i : ℕ) → length rows ≤ i → release (firsts rows) i ≡ 0
firsts_past rows i l =
    get_or-append_right (map (λ x. x.0) rows) (replicate (24 - length rows) 0) (length rows) i 0 (length-map rows (λ x. x.0)) l
    ∙ zeros (24 - length rows) (i - length rows)

module _ (ts : List Ticket) where
  -- the free price, by the first starts of the rows
  abbrev price : Ends → ℕ
  price rows = free_price ts (firsts rows)

  -- divided by 720720 and rounded up it is f
  abbrev pub rounds_to : Ends → ℕ → Bool
  rounds_to rows f = leb (price rows) (720720 * f) && ltb (720720 * f) (price rows + 720720)

  pub floor_is :
      (rows : Ends) (f : ℕ) → length rows ≡ length ts → length ts ≤ 24 → filled ts rows ≡ true → rounds_to rows f ≡ true → FloorAnswer ts (table rows) f
  floor_is rows f n few some e =
      let (up, near) = and_parts (leb (price rows) (720720 * f)) (ltb (720720 * f) (price rows + 720720)) e in
      inr (
        firsts rows,
        record {
          places = simp (length-append, length-map, length-replicate) (omega arith);
          here = filled_first ts rows n some;
          past = λ i l. firsts_past rows i (omega arith);
        },
        (price rows, free_price_is ts (firsts rows), leb-true (price rows) (720720 * f) up, ltb-true (720720 * f) (price rows + 720720) near),
      )

  -- the same of the posted rows
  pub posted_floor : (f : ℕ) → length ts ≤ 24 → filled ts (ends ts) ≡ true → rounds_to (ends ts) f ≡ true → FloorAnswer ts (posted (setting ts)) f
  posted_floor f few some e =
      let Has : Rows → Type 0 = λ R. FloorAnswer ts R f in
      subst Has (sym (posted_is ts)) (floor_is (ends ts) f (ends_count ts) few some e)
