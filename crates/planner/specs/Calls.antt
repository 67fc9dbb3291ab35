-- What the calls of a planner do to it. Assumes nothing.
use Rattle.std.specs.Prelude.{◌≡◌, ℕ}
use Rattle.tickets.specs.declared.collection.Collection.{Collection}
use Rattle.stores.specs.Sets.{Rows}
use Rattle.runs.specs.Tables.{Setting}
use Rattle.runs.specs.Planner.{Answer, State, sealed, Means}
use Rattle.runs.specs.Whole.{History, just_sealed, longer, Reached, told, Good}
use Rattle.runs.specs.declared.call.Call.{Call}
use Rattle.planner.specs.declared.state.Planner.{Planner}
use Rattle.planner.specs.States.{setting_of, state_of}

-- the history h leads to the state s, and what holds after every history holds there: no plan is affordable in only one of the standing
-- table and the orders' table, and no ticket's row is empty in either
pub record Stands (w : Setting) (h : History) (s : State) : Type 0 where
  pub reached : Reached w h s
  pub good : Good w (told h) s

-- p was sealed over the collection c, with this stamp
pub record Sealed {S : Type 0} (rows : S → Rows) (c : Collection) (stamp : ℕ) (p : Planner S) : Type 0 where
  pub collection : p.collection ≡ c
  pub state : state_of rows p ≡ sealed (setting_of p) stamp c.ceiling
  -- the empty history leads to it
  pub stands : Stands (setting_of p) (just_sealed stamp c.ceiling) (state_of rows p)

-- the call c, with the answer a, made q of the planner p
pub record Moved {S : Type 0} (rows : S → Rows) (p : Planner S) (c : Call) (a : Answer) (q : Planner S) : Type 0 where
  -- what the call means in the state before it
  pub means : Means (setting_of p) (state_of rows p) c a (state_of rows q)
  pub collection : q.collection ≡ p.collection
  -- every history that led to p goes on by the call
  pub onward : (h : History) → Reached (setting_of p) h (state_of rows p) → Stands (setting_of q) (longer h c a) (state_of rows q)
