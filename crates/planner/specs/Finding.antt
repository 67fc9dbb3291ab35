-- Finding a ticket's start in a table. Assumes nothing.
use Rattle.std.specs.Prelude.{◌≡◌, ℕ, ◌<◌, ◌≤◌, true, false, ◌⊎◌, Ok, Err, Result}
use Rattle.tickets.specs.declared.planner_refusal.PlannerRefusal.{PlannerRefusal}
use Rattle.tickets.specs.declared.planner_refusal.PlannerRefusal.TheVariants.{NoSuchTicket, NoSuchStart}
use Rattle.runs.specs.Tables.{Table, Setting}

-- start t is in the row of ticket i; else no ticket has the number, or the start is not in the row
abbrev pub Found : Setting → Table → ℕ → ℕ → Result Unit PlannerRefusal → Type 0
Found w T i t (Ok _) = (i < w.tickets) × (T i t ≡ true)
Found w T i t (Err e) = ((e ≡ NoSuchTicket) × (w.tickets ≤ i)) ⊎ ((e ≡ NoSuchStart) × (i < w.tickets) × (T i t ≡ false))
