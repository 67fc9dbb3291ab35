-- What trying a ban answers, and what it leaves. Assumes nothing.
use Rattle.std.specs.Prelude.{◌≡◌, ℕ, ◌⊎◌, ◌∷◌, List, length, Ok, Err, Result}
use Rattle.tickets.specs.Refusals.{Answers, Clear}
use Rattle.tickets.specs.declared.planner_refusal.PlannerRefusal.{PlannerRefusal}
use Rattle.stores.specs.Sets.{Rows}
use Rattle.runs.specs.Tables.{Table, Setting, Largest}
use Rattle.runs.specs.Orders.{ban, less}
use Rattle.runs.specs.Planner.{State, with_table, with_levels, asked, meaning}
use Rattle.runs.specs.declared.call.Call.{Call}
use Rattle.runs.specs.declared.call.Call.TheVariants.{Ban, Mark, Prune}
use Rattle.planner.specs.declared.state.Planner.{Planner}
use Rattle.planner.specs.States.{setting_of, state_of}
use Rattle.planner.specs.Promise.{ListsCuts, cuts_of}

-- the call c is refused by e in the state s, or by nothing
abbrev pub Refused : Setting → State → Call → PlannerRefusal → Type 0
Refused w s c e = Answers (meaning w) (asked s c) e

abbrev pub Free : Setting → State → Call → Type 0
Free w s c = Clear (meaning w) (asked s c)

-- the state s with one level more
abbrev pub with_level : State → State
with_level s = with_levels s (s.standing ∷ s.levels)

-- the state s with start t of ticket i banned
abbrev pub with_ban : State → ℕ → ℕ → State
with_ban s i t = with_table s (less (ban i t) s.standing)

-- what a prune answers in the state s, and what becomes of the list that it is lent: the starts that the largest self-supporting table
-- lacks are listed, and k is their number
abbrev pub PruneTells : Setting → State → List ℕ → Result ℕ PlannerRefusal → List ℕ → Type 0
PruneTells w s old (Ok k) new = (L : Table) × Largest w s.ceiling s.standing L × ListsCuts (cuts_of s.standing L) old new k
PruneTells w s old (Err e) new = Refused w s (Prune (length old)) e × (new ≡ old)

-- the same of a ban of start t of ticket i and then a prune
abbrev pub BanTells : Setting → State → ℕ → ℕ → List ℕ → Result ℕ PlannerRefusal → List ℕ → Type 0
BanTells w s i t old (Ok k) new = Free w s (Ban i t) × PruneTells w (with_ban s i t) old (Ok k) new
BanTells w s i t old (Err e) new = (Refused w s (Ban i t) e × (new ≡ old)) ⊎ PruneTells w (with_ban s i t) old (Err e) new

-- the same where a mark comes first
abbrev pub MarkTells : Setting → State → ℕ → ℕ → List ℕ → Result ℕ PlannerRefusal → List ℕ → Type 0
MarkTells w s i t old (Ok k) new = BanTells w (with_level s) i t old (Ok k) new
MarkTells w s i t old (Err e) new = (Refused w s Mark e × (new ≡ old)) ⊎ BanTells w (with_level s) i t old (Err e) new

-- p was told to ban and then to prune; q has another table at most
pub record Tried {S : Type 0} (rows : S → Rows) (p : Planner S) (i t : ℕ) (old : List ℕ) (r : Result ℕ PlannerRefusal) (q : Planner S) (new : List ℕ) : Type 0 where
  pub collection : q.collection ≡ p.collection
  pub state : state_of rows q ≡ with_table (state_of rows p) (rows q.store)
  pub tells : BanTells (setting_of p) (state_of rows p) i t old r new

-- what the planner's calls go by is in q as it is in p: the tickets, the table, the ceiling, and with them the open levels and the stamp
pub record Unchanged {S : Type 0} (rows : S → Rows) (p q : Planner S) : Type 0 where
  pub collection : q.collection ≡ p.collection
  pub table : rows q.store ≡ rows p.store
  pub ceiling : q.ceiling ≡ p.ceiling
  pub state : state_of rows q ≡ state_of rows p
