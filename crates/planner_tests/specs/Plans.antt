-- Plans that stand after a call. Assumes nothing.
use Rattle.std.specs.Prelude.{◌≡◌, ℕ, ◌<◌, true}
use Rattle.stores.specs.Sets.{Rows}
use Rattle.runs.specs.Tables.{Table, Plan, Setting, Affordable}
use Rattle.runs.specs.Planner.{Answer}
use Rattle.runs.specs.Ledger.{Ledger, orders_table}
use Rattle.runs.specs.Whole.{History, longer, Reached, told}
use Rattle.runs.specs.declared.call.Call.{Call}
use Rattle.planner.specs.declared.state.Planner.{Planner}
use Rattle.planner.specs.States.{setting_of, state_of}
use Rattle.planner.specs.Calls.{Moved}

-- each start of each plan that is affordable in O stands in T
abbrev pub Keeps : Setting → ℕ → Table → Table → Type 0
Keeps w U O T = (s : Plan) → Affordable w U O s → (i : ℕ) → i < w.tickets → T i (s i) ≡ true

-- the same of the orders' table
abbrev pub KeepsOrders : Setting → Ledger → Table → Type 0
KeepsOrders w L T = Keeps w L.ceiling (orders_table w L) T

-- the call c, with the answer a, made q of p: after every history that leads to p and goes on by the call, each plan that is affordable
-- in the orders' table stands in q
abbrev pub PlansStand : {S : Type 0} → (S → Rows) → Planner S → Call → Answer → Planner S → Type 0
PlansStand rows p c a q = (h : History) → Reached (setting_of p) h (state_of rows p) → KeepsOrders (setting_of q) (told (longer h c a)) (rows q.store)

-- the call was made, and each plan that is affordable in the orders' table stands
pub record Called {S : Type 0} (rows : S → Rows) (p : Planner S) (c : Call) (a : Answer) (q : Planner S) : Type 0 where
  pub made : Moved rows p c a q
  pub plans : PlansStand rows p c a q
