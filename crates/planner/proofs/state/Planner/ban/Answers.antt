use Rattle.std.proofs.Common.{◌≡◌, Err, refl, ap, ◌∙◌, arith, rules}
use Rattle.runs.specs.Planner.{bans, takes, refuses}
use Rattle.runs.proofs.Refusals.{ban_13, ban_free}
use Rattle.stores.specs.Sets.{without}
use Rattle.planner.specs.States.{setting_of, state_of}
use Rattle.planner.proofs.Marks.{state_same, marks_lent, marks_cut}
use Rattle.planner.proofs.Going.{goes_on, ban_lost}
use Rattle.planner.proofs.state.Planner.ban.Goals as goal

pub returns-in_err-find : goal.returns-in_err-find
returns-in_err-find g c =
    let is : c.from_residual.result ≡ Err c.in_err-find.field-0.0 = search rules in
    rw is (ban_lost g.S.Store.rows c.args.self.now c.args.ticket c.args.start _ c.in_err-find.ensures)

pub returns-then-size-le1 : goal.returns-then-size-le1
returns-then-size-le1 g c =
    let w = setting_of c.args.self.now in
    let s = state_of g.S.Store.rows c.args.self.now in
    goes_on g.S.Store.rows c.args.self.now _ _ _ refl
    (refuses (ban_13 w s c.args.ticket c.args.start c.in_ok-find.ensures.0 c.in_ok-find.ensures.1 (omega (arith, c.size.ensures))) refl)

pub returns : goal.returns
returns g c =
    let R = g.S.Store.rows in
    let p = c.args.self.now in
    let same = c.of-cutting.ensures.store in
    goes_on R p _ _ _ refl (takes
    (ban_free (setting_of p) (state_of R p) c.args.ticket c.args.start c.in_ok-find.ensures.0 c.in_ok-find.ensures.1 (omega (arith, c.size.ensures)))
    (bans (state_same (c.cut.ensures.table ∙ ap (λ s. without (R s) c.args.ticket c.args.start) same) refl
    (marks_lent _ _ p.levels _ _ c.deref_mut.ensures.value c.note.ensures.many
    (marks_cut R p.store _ _ _ _ same c.of-cutting.ensures.gone c.cut.ensures.cuts c.note.ensures.tables)) refl)))
