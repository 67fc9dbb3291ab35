use Rattle.std.proofs.Common.{List, refl, ap, ◌∙◌, rules}
use Rattle.tickets.specs.declared.ticket.Ticket.{Ticket}
use Rattle.runs.specs.Tables.{posted}
use Rattle.runs.specs.Supports.{setting}
use Rattle.planner.proofs.Marks.{state_same}
use Rattle.planner.proofs.Going.{begins}
use Rattle.planner.proofs.state.Planner.seal.Goals as goal

pub returns : goal.returns
returns g c = begins g.S.Store.rows c.args.collection c.args.stamp _ refl (state_same (c.fill.ensures ∙ ap (λ (ts : List Ticket). posted (setting ts)) c.tickets.ensures) c.ceiling-ceiling.ensures (search rules) refl)
