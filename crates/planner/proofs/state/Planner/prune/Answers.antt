use Rattle.std.proofs.Common.{◌≡◌, ◌≤◌, length, reverse, refl, ap, sym, ◌∙◌, subst, arith, rules}
use Rattle.stores.specs.Sets.{Rows}
use Rattle.stores.specs.BitRows.{bit_rows}
use Rattle.runs.specs.Planner.{words, prunes, takes, refuses}
use Rattle.runs.proofs.Refusals.{prune_17, prune_21, prune_free}
use Rattle.planner.specs.Levels.{at_marks}
use Rattle.runs.specs.Tables.{starts}
use Rattle.planner.specs.Sets.{total}
use Rattle.planner.specs.Trims.{Trim, Settled}
use Rattle.planner.specs.Promise.{ListsCuts}
use Rattle.planner.specs.States.{setting_of, state_of}
use Rattle.planner.proofs.Marks.{state_same, marks_lent, marks_kept}
use Rattle.planner.proofs.Rounds.{settled_some, settled_nothing}
use Rattle.runs.proofs.Supports.{laws}
use Rattle.planner.proofs.Prunes.{counted, cuts_back, cuts_many, cuts_room, cuts_listed, cuts_total, promised}
use Rattle.planner.proofs.state.Planner.prune.Given as given
use Rattle.planner.proofs.state.Planner.prune.Goals as goal
use Rattle.planner.proofs.state.Planner.prune.Goals.{After-count_starts-standing, After-settle}

-- as many starts stand as were counted
standing : (g : given.Over) (c : goal.After-count_starts-standing g) → c.count_starts-standing.result ≡ starts (setting_of c.args.self.now) (g.S.Store.rows c.args.self.now.store)
standing g c = counted (setting_of c.args.self.now) _ _ _ (ap length c.tickets-tickets.ensures) c.count_starts-standing.ensures

-- the list is enough
enough : (g : given.Over) (c : goal.After-settle g) → c.count_starts-standing.result ≡ starts (setting_of c.args.self.now) (g.S.Store.rows c.args.self.now.store) → words (setting_of c.args.self.now) (state_of g.S.Store.rows c.args.self.now) ≤ length c.args.cuts.now
enough g c all = omega (arith, all, ap length c.tickets-tickets.ensures)

trimmed :
    (g : given.Over) (c : goal.After-settle g) →
    Trim (setting_of c.args.self.now) c.args.self.now.ceiling (g.S.Store.rows c.args.self.now.store) (bit_rows c.of-cutting.result.gone)
    (g.S.Store.rows c.settle.new.self.store.now) (bit_rows c.settle.new.self.gone)
trimmed g c = rw c.of-cutting.ensures.store at c.settle.ensures.trim

settled :
    (g : given.Over) (c : goal.After-settle g) →
    Settled (setting_of c.args.self.now) c.args.self.now.ceiling (g.S.Store.rows c.args.self.now.store) (g.S.Store.rows c.settle.new.self.store.now) c.settle.result
settled g c = rw c.of-cutting.ensures.store at c.settle.ensures.done

-- all that was cut is in tickets' rows
all_cuts : (g : given.Over) (c : goal.After-settle g) → total (bit_rows c.settle.new.self.gone) ≡ starts (setting_of c.args.self.now) (bit_rows c.settle.new.self.gone)
all_cuts g c = cuts_total (setting_of c.args.self.now) c.args.self.now.ceiling _ _ _ _ c.of-cutting.ensures.gone (trimmed g c) (search rules)

pub returns-then-cuts-tickets : goal.returns-then-cuts-tickets
returns-then-cuts-tickets g c =
    let R = g.S.Store.rows in
    let p = c.args.self.now in
    let cuts = c.args.cuts.now in
    let all = standing g (goal.at.returns-then-cuts-tickets g c).After-count_starts-standing in
    promised R p _ cuts _ cuts refl (refuses (prune_17 _ _ (length cuts) (omega (arith, all, ap length c.tickets-tickets.ensures))) refl) refl

pub returns-then-is_none : goal.returns-then-is_none
returns-then-is_none g c =
    let R = g.S.Store.rows in
    let p = c.args.self.now in
    let cuts = c.args.cuts.now in
    let w = setting_of p in
    let h = (goal.at.returns-then-is_none g c).After-settle in
    let room = enough g h (standing g (goal.at.returns-then-is_none g c).After-count_starts-standing) in
    let back : R c.put_back.new.self.store.now ≡ R p.store = c.put_back.ensures.table ∙ cuts_back w p.ceiling (R p.store) _ _ _ c.of-cutting.ensures.gone (trimmed g h) in
    promised R p _ cuts _ cuts refl
    (refuses
    (prune_21 w (state_of R p) (length cuts) room (settled_nothing w (laws _) p.ceiling _ _ _ c.if-is_none.ensures (settled g h)))
    (state_same back refl (ap (λ (T : Rows). at_marks T (reverse p.levels.items)) back) refl))
    refl

pub list_cuts-requires : goal.list_cuts-requires
list_cuts-requires g c =
    let p = c.args.self.now in
    let w = setting_of p in
    let h = (goal.at.list_cuts-requires g c).After-settle in
    let room = enough g h (standing g (goal.at.list_cuts-requires g c).After-count_starts-standing) in
    let best = settled_some w (laws _) p.ceiling _ _ _ c.if-is_none.ensures (settled g h) in
    omega (
      arith,
      cuts_room w p.ceiling _ _ _ _ c.of-cutting.ensures.gone (trimmed g h) (length c.args.cuts.now) (g.met.S.Store.bounded c.settle.new.self.store.now) best.itself.full room,
      all_cuts g h,
    )

pub returns : goal.returns
returns g c =
    let R = g.S.Store.rows in
    let p = c.args.self.now in
    let cuts = c.args.cuts.now in
    let w = setting_of p in
    let h = (goal.at.returns g c).After-settle in
    let room = enough g h (standing g (goal.at.returns g c).After-count_starts-standing) in
    let none = c.of-cutting.ensures.gone in
    let trim = trimmed g h in
    let best = settled_some w (laws _) p.ceiling _ _ _ c.if-is_none.ensures (settled g h) in
    let Q = R c.settle.new.self.store.now in
    let H = bit_rows c.settle.new.self.gone in
    let many : c.count_starts.result ≡ starts w H = counted w H _ _ (ap length c.tickets-tickets.ensures) c.count_starts.ensures in
    promised R p _ cuts _ _ refl
    (takes
    (prune_free w (state_of R p) (length cuts) room (λ no. no Q best.itself best.within))
    (prunes Q best (omega (arith, many, cuts_many w p.ceiling (R p.store) _ Q H none trim))
    (state_same refl refl (marks_lent _ _ p.levels _ _ c.deref_mut.ensures.value c.note.ensures.many (marks_kept _ _ _ _ _ _ none trim.out c.note.ensures.tables)) refl)))
    (cuts_listed w p.ceiling (R p.store) _ Q H none trim cuts c.list_cuts.new.cuts c.count_starts.result
    (subst (λ n. ListsCuts H cuts c.list_cuts.new.cuts n) (all_cuts g h ∙ sym many) c.list_cuts.ensures))
