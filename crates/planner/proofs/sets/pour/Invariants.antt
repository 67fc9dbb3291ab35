use Rattle.std.proofs.Common.{◌≡◌}
use Rattle.planner.specs.Sets.{union}
use Rattle.planner.specs.Starts.{place}
use Rattle.planner.proofs.Walking.{before}
use Rattle.planner.proofs.sets.pour.Given as goal

abbrev pub invariant-loop-row : goal.invariant-loop-row
invariant-loop-row g l =
    (goal.iterator-loop-row g).can_next l.row-iterator ×
    (l.row-iterator.store.now ≡ l.from) ×
    (g.S.Store.rows l.into ≡ union (g.S.Store.rows l.initial.into) (before (g.F.Store.rows l.from) (place l.row-iterator)))
