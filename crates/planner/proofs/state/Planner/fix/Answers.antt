use Rattle.std.proofs.Common.{◌≡◌, eqb, Err, refl, ap, ◌∙◌, rules}
use Rattle.runs.specs.Planner.{fixes, takes}
use Rattle.runs.proofs.Refusals.{fix_free}
use Rattle.runs.specs.Orders.{fixed}
use Rattle.planner.specs.Cuttings.{Retained}
use Rattle.planner.proofs.Retaining.{retained_as, retained_fixed}
use Rattle.planner.specs.States.{setting_of, state_of}
use Rattle.planner.proofs.Marks.{state_same, marks_lent, marks_cut}
use Rattle.planner.proofs.Going.{goes_on, fix_lost}
use Rattle.planner.proofs.state.Planner.fix.Goals as goal

pub returns-in_err-find : goal.returns-in_err-find
returns-in_err-find g c =
    let is : c.from_residual.result ≡ Err c.in_err-find.field-0.0 = search rules in
    rw is (fix_lost g.S.Store.rows c.args.self.now c.args.ticket c.args.start _ c.in_err-find.ensures)

pub returns : goal.returns
returns g c =
    let R = g.S.Store.rows in
    let p = c.args.self.now in
    let same = c.of-cutting.ensures.store in
    let kept : Retained (λ t b. b ≡ eqb t c.args.start) c.args.ticket (R c.of-cutting.result.store.now) (R c.retain.new.self.store.now) =
    retained_as _ _ c.args.ticket _ _ (g.met.S.Store.bounded c.of-cutting.result.store.now) (λ t b l k. search rules) c.retain.ensures.table in
    goes_on R p _ _ _ refl (takes
    (fix_free (setting_of p) (state_of R p) c.args.ticket c.args.start c.in_ok-find.ensures.0 c.in_ok-find.ensures.1)
    (fixes (state_same (retained_fixed _ _ c.args.ticket c.args.start kept ∙ ap (λ s. fixed (R s) c.args.ticket c.args.start) same) refl
    (marks_lent _ _ p.levels _ _ c.deref_mut.ensures.value c.note.ensures.many
    (marks_cut R p.store _ _ _ _ same c.of-cutting.ensures.gone c.retain.ensures.cuts c.note.ensures.tables)) refl)))
