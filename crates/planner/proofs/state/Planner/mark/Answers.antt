use Rattle.std.proofs.Common.{◌≡◌, ℕ, true, false, eqb, ◌≢◌, reverse, ap, ◌∙◌, sym, refl, arith}
use Rattle.std.proofs.lemmas.Bool.{eqb-true, eqb-false}
use Rattle.runs.specs.Planner.{marks, takes}
use Rattle.runs.proofs.Refusals.{mark_15, mark_free}
use Rattle.planner.specs.Levels.{at_marks}
use Rattle.planner.specs.States.{setting_of, state_of}
use Rattle.planner.proofs.Marks.{state_same, levels_many, marks_opened}
use Rattle.planner.proofs.Going.{goes_on, refused}
use Rattle.planner.proofs.state.Planner.mark.Goals as goal

-- what the test for room tells
is_full : (n m : ℕ) → true ≡ eqb n m → n ≡ m
is_full n m full = eqb-true n m (sym full)

not_full : (n m : ℕ) → false ≡ eqb n m → n ≢ m
not_full n m room = eqb-false n m (sym room)

pub returns-then-is_full : goal.returns-then-is_full
returns-then-is_full g c =
    let R = g.S.Store.rows in
    let p = c.args.self.now in
    let full = is_full _ _ c.if-is_full.ensures.value in
    refused R p _ _ (mark_15 _ _ (omega (arith, full, levels_many (R p.store) p.levels.items)))

pub returns : goal.returns
returns g c =
    let R = g.S.Store.rows in
    let p = c.args.self.now in
    let many = levels_many (R p.store) p.levels.items in
    let room = not_full _ _ c.if-is_full.ensures.value in
    let fits = c.if-is_full.ensures.fits in
    goes_on R p _ _ _ refl (takes
    (mark_free (setting_of p) (state_of R p) (omega (arith, many, room, fits)))
    (marks refl (omega (arith, many, c.len.ensures.value, c.push.ensures.len))
    (state_same refl refl (ap (λ levels. at_marks (R p.store) (reverse levels)) c.push.ensures.items ∙ marks_opened (R p.store) p.levels.items c.empty.result c.empty.ensures) refl)))
