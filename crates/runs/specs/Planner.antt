-- A planner's state, when each call is refused, and what it does when it is taken. Assumes nothing.
use Rattle.std.specs.Prelude.{◌≡◌, ℕ, ◌+◌, ◌-◌, ◌<◌, ◌≤◌, Bool, true, false, List, [], ◌∷◌, length, Ok, Err, Result}
use Rattle.tickets.specs.Refusals.{Meaning, Answers, Clear}
use Rattle.stores.specs.Sets.{size_of}
use Rattle.tickets.specs.Planner.{number_of}
use Rattle.runs.specs.Tables.{Table, Setting, posted, starts, NoneWithin, Largest}
use Rattle.runs.specs.Orders.{ban, fix, less}
use Rattle.runs.specs.declared.call.Call.{Call}
use Rattle.runs.specs.declared.call.Call.TheVariants.{Ban, Fix, Lower, Mark, Keep, Undo, Prune}
use Rattle.runs.specs.declared.call.Taken.{Taken}
use Rattle.runs.specs.declared.call.Taken.TheVariants.{Done, Marked, Cut}
use Rattle.tickets.specs.declared.planner_refusal.PlannerRefusal.{PlannerRefusal}
use Rattle.tickets.specs.declared.planner_refusal.PlannerRefusal.TheVariants.{NoSuchTicket, NoSuchStart, OnlyStart, CeilingNotLower, TooManyLevels, StaleToken, TooShort, Hopeless}

-- the standing table, the ceiling, for each open level the table at its mark, newest first, and the stamp
pub record State : Type 0 where
  pub standing : Table
  pub ceiling : ℕ
  pub levels : List Table
  pub stamp : ℕ

-- a planner as it is sealed: the posted rows, the collection's ceiling and no open level
abbrev pub sealed : Setting → ℕ → ℕ → State
sealed w stamp U = record { standing = posted w; ceiling = U; levels = []; stamp = stamp }

-- the state s with another table
abbrev pub with_table : State → Table → State
with_table s T = record { standing = T; ceiling = s.ceiling; levels = s.levels; stamp = s.stamp }

-- the state s with another ceiling
abbrev pub with_ceiling : State → ℕ → State
with_ceiling s U = record { standing = s.standing; ceiling = U; levels = s.levels; stamp = s.stamp }

-- the state s with other levels
abbrev pub with_levels : State → List Table → State
with_levels s As = record { standing = s.standing; ceiling = s.ceiling; levels = As; stamp = s.stamp }

-- a token with this stamp and level is of the planner's newest open level; levels are numbered from 1
pub record Newest (s : State) (stamp level : ℕ) : Type 0 where
  pub own : stamp ≡ s.stamp
  pub some : 0 < level
  pub top : level ≡ length s.levels

-- how many words a cut list must have to be enough: as many as there are starts standing less tickets
abbrev pub words : Setting → State → ℕ
words w s = starts w s.standing - w.tickets

-- which refusals' conditions a call meets in the state s
pub data Meets (w : Setting) (s : State) : PlannerRefusal → Call → Type 0 where
  -- ban: no ticket has the number; the start is not in its row; the row has no other start
  ban_no_ticket : {i t : ℕ} → w.tickets ≤ i → Meets w s NoSuchTicket (Ban i t)
  ban_no_start : {i t : ℕ} → s.standing i t ≡ false → Meets w s NoSuchStart (Ban i t)
  ban_only_start : {i t : ℕ} → size_of (s.standing i) ≤ 1 → Meets w s OnlyStart (Ban i t)
  -- fix: no ticket has the number; the start is not in its row
  fix_no_ticket : {i t : ℕ} → w.tickets ≤ i → Meets w s NoSuchTicket (Fix i t)
  fix_no_start : {i t : ℕ} → s.standing i t ≡ false → Meets w s NoSuchStart (Fix i t)
  -- lower: the ceiling is not lower
  lower_not_lower : {u : ℕ} → s.ceiling ≤ u → Meets w s CeilingNotLower (Lower u)
  -- mark: it would be a 33rd open level
  mark_too_many : 32 ≤ length s.levels → Meets w s TooManyLevels Mark
  -- keep and undo: the token is not of the newest level
  keep_stale : {stamp level : ℕ} → (Newest s stamp level → ⊥) → Meets w s StaleToken (Keep stamp level)
  undo_stale : {stamp level : ℕ} → (Newest s stamp level → ⊥) → Meets w s StaleToken (Undo stamp level)
  -- prune: the list is not enough; no self-supporting table lies within the standing one
  prune_short : {room : ℕ} → room < words w s → Meets w s TooShort (Prune room)
  prune_hopeless : {room : ℕ} → NoneWithin w s.ceiling s.standing → Meets w s Hopeless (Prune room)

-- what is asked of a planner: its state, and the call with its arguments
pub record Asked : Type 0 where
  pub state : State
  pub call : Call

-- the call c is asked in the state s
abbrev pub asked : State → Call → Asked
asked s c = record { state = s; call = c }

-- each refusal: its number, and what meets it
abbrev pub meaning : Setting → PlannerRefusal → Meaning Asked
meaning w e = record { number = number_of e; meets = λ a. Meets w a.state e a.call }

-- what became of a call: what it tells where it was taken, or why it was refused
abbrev pub Answer : Type 0
Answer = Result Taken PlannerRefusal

-- what a call that is taken in the state s answers, and the state s' that it leaves
pub data Takes (w : Setting) (s : State) : Call → Answer → State → Type 0 where
  -- ban takes the start out of the row, fix all others
  bans : {i t : ℕ} {s' : State} → s' ≡ with_table s (less (ban i t) s.standing) → Takes w s (Ban i t) (Ok Done) s'
  fixes : {i t : ℕ} {s' : State} → s' ≡ with_table s (less (fix i t) s.standing) → Takes w s (Fix i t) (Ok Done) s'
  -- lower sets the ceiling
  lowers : {u : ℕ} {s' : State} → s' ≡ with_ceiling s u → Takes w s (Lower u) (Ok Done) s'
  -- mark opens a level, and answers its token
  marks :
      {stamp level : ℕ} {s' : State} → stamp ≡ s.stamp → level ≡ length s.levels + 1 → s' ≡ with_levels s (s.standing ∷ s.levels) →
      Takes w s Mark (Ok (Marked stamp level)) s'
  -- keep closes the newest level; undo does, and goes back to the table at its mark
  keeps :
      {stamp level : ℕ} {s' : State} (A : Table) (As : List Table) → s.levels ≡ A ∷ As → s' ≡ with_levels s As →
      Takes w s (Keep stamp level) (Ok Done) s'
  undoes :
      {stamp level : ℕ} {s' : State} (A : Table) (As : List Table) → s.levels ≡ A ∷ As → s' ≡ with_table (with_levels s As) A →
      Takes w s (Undo stamp level) (Ok Done) s'
  -- prune leaves the largest self-supporting table, and answers how many starts fewer there are
  prunes :
      {room k : ℕ} {s' : State} (L : Table) → Largest w s.ceiling s.standing L → starts w s.standing ≡ starts w L + k →
      s' ≡ with_table s L → Takes w s (Prune room) (Ok (Cut k)) s'

-- what a call means in the state s: where it meets no refusal it is taken; else the first by number is the answer, and all is as before
pub data Means (w : Setting) (s : State) (c : Call) : Answer → State → Type 0 where
  takes : {a : Answer} {s' : State} → Clear (meaning w) (asked s c) → Takes w s c a s' → Means w s c a s'
  refuses : {e : PlannerRefusal} {s' : State} → Answers (meaning w) (asked s c) e → s' ≡ s → Means w s c (Err e) s'

-- whether the answer says that the call was taken
abbrev pub taken : Answer → Bool
taken (Ok _) = true
taken (Err _) = false
