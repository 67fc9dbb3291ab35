use Rattle.std.proofs.Common.{◌≡◌, ◌+◌, ◌*◌, ◌≤◌}
use Rattle.spreads.specs.Lines.{sum_to}
use Rattle.spreads.specs.Spreads.{ticket}
use Rattle.queries.specs.Judging.{starts}
use Rattle.queries.proofs.judging.Plan.cost.Given as goal

abbrev pub invariant-loop-i : goal.invariant-loop-i
invariant-loop-i l =
    (l.sum ≡ sum_to l.i (λ k. (ticket l.self.tickets.now k).weight * (starts l.self.starts.now k + (ticket l.self.tickets.now k).length))) × (l.sum ≤ l.i * 65551000)
