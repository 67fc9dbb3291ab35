-- A planner's state, as the theory of runs has it, and what its calls answered. Assumes nothing.
use Rattle.std.specs.Prelude.{◌≡◌, reverse, Ok, Err, Result}
use Rattle.tickets.specs.Collections.{posted}
use Rattle.tickets.specs.declared.planner_refusal.PlannerRefusal.{PlannerRefusal}
use Rattle.stores.specs.Sets.{Rows}
use Rattle.runs.specs.Tables.{Setting}
use Rattle.runs.specs.Supports.{setting}
use Rattle.runs.specs.Planner.{Answer, State}
use Rattle.runs.specs.declared.call.Taken.TheVariants.{Done, Marked}
use Rattle.planner.specs.declared.state.Planner.{Planner}
use Rattle.planner.specs.declared.token.Token.{Token}
use Rattle.planner.specs.declared.token.TokenRefused.{TokenRefused}
use Rattle.planner.specs.Levels.{at_marks}

-- what the planner is set over: its tickets
abbrev pub setting_of : {S : Type 0} → Planner S → Setting
setting_of p = setting (posted p.collection)

-- its state: the standing table is what the store means; its newest level is the last
abbrev pub state_of : {S : Type 0} → (S → Rows) → Planner S → State
state_of rows p = record { standing = rows p.store; ceiling = p.ceiling; levels = at_marks (rows p.store) (reverse p.levels.items); stamp = p.stamp }

-- what ban, fix and lower answered
abbrev pub done : Result Unit PlannerRefusal → Answer
done (Ok _) = Ok Done
done (Err e) = Err e

-- what mark answered
abbrev pub opened : Result Token PlannerRefusal → Answer
opened (Ok t) = Ok (Marked t.stamp t.level)
opened (Err e) = Err e

-- what keep and undo answered
abbrev pub closed : Result Unit TokenRefused → Answer
closed (Ok _) = Ok Done
closed (Err x) = Err x.refusal

-- a token that was refused is handed back as it was
abbrev pub HandedBack : Token → Result Unit TokenRefused → Type 0
HandedBack t (Ok _) = Unit {0}
HandedBack t (Err x) = x.token ≡ t
