use Rattle.std.proofs.Common.{◌≡◌, ◌-◌}
use Rattle.planner.specs.Starts.{place}
use Rattle.planner.proofs.Walking.{Passed}
use Rattle.planner.proofs.starts.StartsIterator.next.Given as goal

abbrev pub invariant-loop-self : goal.invariant-loop-self
invariant-loop-self g l =
    (l.self.store.now ≡ l.initial.self.store.now) × Passed (g.S.Store.rows l.initial.self.store.now) (place l.initial.self) l.self.row l.self.next

abbrev pub decreases-loop-self : goal.decreases-loop-self
decreases-loop-self g l = 24 - l.self.row
