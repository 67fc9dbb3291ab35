-- The worked days, checked by computing each. Assumes nothing.
use Rattle.std.proofs.Common.{[], ◌∷◌, refl, arith, lit<, lit≤}
use Rattle.runs.specs.Tables.{NoneWithin, Largest}
use Rattle.runs.specs.Supports.{setting}
use Rattle.figures.specs.Worked.{Ends, table, whole, one, one_left, two, two_left, swapped, swapped_left, both, weightless, last, WorkedDays}
use Rattle.figures.proofs.Rounds.{ends, begin, round, emptied, all_cheap, no_weight, largest, uncut}
use Rattle.figures.proofs.Floors.{floor_is, posted_floor}
use Rattle.figures.proofs.Plans.{taken, dear, overlapping}

-- one round is enough on day one
one_pruned : Largest (setting one) 372 (whole one) (table one_left)
one_pruned =
    let first = round one 372 (whole one) (ends one) refl (begin one 372) one_left refl refl in
    largest one 372 (whole one) one_left refl first refl (all_cheap one 372 one_left refl refl)

-- under the lower ceiling it empties the row of ticket 0, whatever it leaves of the others
one_hopeless : NoneWithin (setting one) 371 (whole one)
one_hopeless =
    let rows : Ends = (1, 0) ∷ (4, 8) ∷ (5, 9) ∷ (13, 15) ∷ [] in
    let first = round one 371 (whole one) (ends one) refl (begin one 371) rows refl refl in
    emptied one 371 (whole one) rows refl first 0 (lit< tt) (lit< tt)

-- day two takes two rounds
two_pruned : Largest (setting two) 14 (whole two) (table two_left)
two_pruned =
    let rows : Ends = (2, 4) ∷ (1, 2) ∷ [] in
    let first = round two 14 (whole two) (ends two) refl (begin two 14) rows refl refl in
    let second = round two 14 (whole two) rows refl first two_left refl refl in
    largest two 14 (whole two) two_left refl second refl (all_cheap two 14 two_left refl refl)

swapped_pruned : Largest (setting swapped) 14 (whole swapped) (table swapped_left)
swapped_pruned =
    let rows : Ends = (1, 2) ∷ (2, 4) ∷ [] in
    let first = round swapped 14 (whole swapped) (ends swapped) refl (begin swapped 14) rows refl refl in
    let second = round swapped 14 (whole swapped) rows refl first swapped_left refl refl in
    largest swapped 14 (whole swapped) swapped_left refl second refl (all_cheap swapped 14 swapped_left refl refl)

latest_hopeless : NoneWithin (setting last) 270999 (whole last)
latest_hopeless =
    let rows : Ends = (256, 255) ∷ [] in
    let first = round last 270999 (whole last) (ends last) refl (begin last 270999) rows refl refl in
    emptied last 270999 (whole last) rows refl first 0 (lit< tt) (lit< tt)

pub worked_days : WorkedDays
worked_days =
    record {
      one_pruned = one_pruned;
      one_floor = posted_floor one 362 (lit≤ tt) refl refl;
      one_floor_left = floor_is one one_left 362 refl (lit≤ tt) refl refl;
      one_hopeless = one_hopeless;
      plan_taken = taken one (whole one) (0 ∷ 5 ∷ 7 ∷ 13 ∷ []) 372 refl refl refl (lit≤ tt);
      plan_taken_left = taken one (table one_left) (0 ∷ 5 ∷ 7 ∷ 13 ∷ []) 372 refl refl refl (lit≤ tt);
      plan_dear = dear one (whole one) (0 ∷ 5 ∷ 7 ∷ 13 ∷ []) 371 refl refl refl (lit< tt);
      plan_overlaps = overlapping one (whole one) (0 ∷ 4 ∷ 7 ∷ 13 ∷ []) 372 refl refl 0 1 (lit< tt) (lit< tt) (λ e. omega arith) (lit< tt, lit< tt);
      two_pruned = two_pruned;
      two_floor = posted_floor two 11 (lit≤ tt) refl refl;
      two_floor_left = floor_is two two_left 12 refl (lit≤ tt) refl refl;
      swapped_pruned = swapped_pruned;
      both_pruned = uncut both 3 refl (all_cheap both 3 (ends both) refl refl);
      both_floor = posted_floor both 3 (lit≤ tt) refl refl;
      weightless_pruned = uncut weightless 0 refl (no_weight weightless 0 (ends weightless) refl);
      weightless_floor = posted_floor weightless 0 (lit≤ tt) refl refl;
      latest_pruned = uncut last 271000 refl (all_cheap last 271000 (ends last) refl refl);
      latest_floor = posted_floor last 271000 (lit≤ tt) refl refl;
      latest_hopeless = latest_hopeless;
      none_pruned = λ U. uncut [] U refl (λ i t l on. absurd (omega arith));
      none_floor = posted_floor [] 0 (lit≤ tt) refl refl;
    }
