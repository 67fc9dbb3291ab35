-- What a prune does, and the whole promise on it. Assumes nothing.
use Rattle.std.specs.Prelude.{◌≡◌, ℕ, ◌+◌, ◌*◌, ◌<◌, ◌≤◌, true, not, ◌&&◌, List, length, Ok, Err, Result, slice_index}
use Rattle.tickets.specs.declared.planner_refusal.PlannerRefusal.{PlannerRefusal}
use Rattle.stores.specs.Sets.{Rows}
use Rattle.runs.specs.Tables.{Setting}
use Rattle.runs.specs.Planner.{Answer, State}
use Rattle.runs.specs.Whole.{History, Reached, Right}
use Rattle.runs.specs.declared.call.Call.TheVariants.{Prune}
use Rattle.runs.specs.declared.call.Taken.TheVariants.{Cut}
use Rattle.planner.specs.declared.state.Planner.{Planner}
use Rattle.planner.specs.States.{setting_of, state_of}
use Rattle.planner.specs.Calls.{Moved}

-- what prune answered
abbrev pub pruned : Result ℕ PlannerRefusal → Answer
pruned (Ok k) = Ok (Cut k)
pruned (Err e) = Err e

-- the cuts: the starts that stand in S, before the call, and not in S', after it
abbrev pub cuts_of : Rows → Rows → Rows
cuts_of S S' i t = S i t && not (S' i t)

-- the first k words of `new` are the starts of P, each as 256 * ticket + start and each once, in any order; the words after them are
-- as in `old`
pub record ListsCuts (P : Rows) (old new : List ℕ) (k : ℕ) : Type 0 where
  pub room : k ≤ length old
  pub each : (i t : ℕ) → P i t ≡ true → (j : ℕ) × (j < k) × (slice_index new j ≡ 256 * i + t)
  pub only : (j : ℕ) → j < k → (i : ℕ) × (t : ℕ) × (P i t ≡ true) × (slice_index new j ≡ 256 * i + t)
  pub once : (j l : ℕ) → j < k → l < k → slice_index new j ≡ slice_index new l → j ≡ l
  pub rest : (j : ℕ) → k ≤ j → slice_index new j ≡ slice_index old j
  pub same : length new ≡ length old

-- the list that was lent: the cuts where the prune was taken, and else as it was
abbrev pub CutList : Rows → Rows → List ℕ → Result ℕ PlannerRefusal → List ℕ → Type 0
CutList S S' old (Ok k) new = ListsCuts (cuts_of S S') old new k
CutList S S' old (Err e) new = new ≡ old

-- the whole promise on a prune after the history h: what `Right` says of its answer and of the tables before and after it, and the list
pub record Promise (w : Setting) (h : History) (old : List ℕ) (s : State) (r : Result ℕ PlannerRefusal) (s' : State) (new : List ℕ) : Type 0 where
  pub right : Right w h (length old) s (pruned r) s'
  pub list : CutList s.standing s'.standing old r new

-- a prune of p, lent the list `old`, answered r and left q and the list `new`: every history that led to p keeps the promise
pub record Pruned {S : Type 0} (rows : S → Rows) (p : Planner S) (old : List ℕ) (r : Result ℕ PlannerRefusal) (q : Planner S) (new : List ℕ) : Type 0 where
  pub moved : Moved rows p (Prune (length old)) (pruned r) q
  pub list : CutList (rows p.store) (rows q.store) old r new
  pub promise : (h : History) → Reached (setting_of p) h (state_of rows p) → Promise (setting_of p) h old (state_of rows p) r (state_of rows q) new
