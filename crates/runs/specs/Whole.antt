-- What holds after every history of calls, and of a prune there. Assumes nothing.
use Rattle.std.specs.Prelude.{◌≡◌, ℕ, ◌+◌, ◌<◌, ◌≤◌, ◌⊎◌, ◌↔◌, List, [], ◌∷◌, map, length, Ok, Err}
use Rattle.tickets.specs.declared.ticket.Ticket.{Ticket}
use Rattle.runs.specs.Tables.{Table, Plan, Setting, Full, PastEmpty, starts, NoneWithin, Largest, Affordable}
use Rattle.runs.specs.Supports.{setting}
use Rattle.runs.specs.Planner.{Answer, State, sealed, Newest, words, Means, taken}
use Rattle.runs.specs.Ledger.{Ledger, orders_table, Heard, ledger}
use Rattle.runs.specs.declared.call.Call.{Call}
use Rattle.runs.specs.declared.call.Call.TheVariants.{Mark, Prune}
use Rattle.runs.specs.declared.call.Taken.TheVariants.{Done, Marked, Cut}
use Rattle.tickets.specs.declared.planner_refusal.PlannerRefusal.TheVariants.{TooShort, Hopeless}

-- a call and its answer
pub record Event : Type 0 where
  pub call : Call
  pub answer : Answer

-- the stamp and the ceiling at sealing, and the calls and answers since, newest first
pub record History : Type 0 where
  pub stamp : ℕ
  pub ceiling : ℕ
  pub events : List Event

-- nothing was asked yet
abbrev pub just_sealed : ℕ → ℕ → History
just_sealed stamp U = record { stamp = stamp; ceiling = U; events = [] }

-- one call more
abbrev pub longer : History → Call → Answer → History
longer h c a = record { stamp = h.stamp; ceiling = h.ceiling; events = record { call = c; answer = a } ∷ h.events }

-- the events lead from the sealed planner to the state s, each call by its meaning
abbrev pub Leads : Setting → ℕ → ℕ → List Event → State → Type 0
Leads w stamp U [] s = s ≡ sealed w stamp U
Leads w stamp U (e ∷ es) s = (m : State) × Leads w stamp U es m × Means w m e.call e.answer s

-- the history leads to the state s
abbrev pub Reached : Setting → History → State → Type 0
Reached w h s = Leads w h.stamp h.ceiling h.events s

-- what the ledger hears of an event
abbrev pub heard : Event → Heard
heard e = record { call = e.call; taken = taken e.answer }

-- the ledger after a history
abbrev pub told : History → Ledger
told h = ledger h.ceiling (map heard h.events)

-- what holds of the state s and the ledger L after a history
pub record Good (w : Setting) (L : Ledger) (s : State) : Type 0 where
  -- the ceiling is the ledger's
  pub ceiling : s.ceiling ≡ L.ceiling
  -- there is one page more than there are open levels
  pub pages : length L.below ≡ length s.levels
  -- no plan is affordable in only one of the standing table and the orders' table
  pub plans : (p : Plan) → Affordable w L.ceiling s.standing p ↔ Affordable w L.ceiling (orders_table w L) p
  -- no ticket's row is empty, and rows past the tickets are
  pub standing_full : Full w s.standing
  pub standing_past : PastEmpty w s.standing
  pub orders_full : Full w (orders_table w L)
  pub orders_past : PastEmpty w (orders_table w L)

-- what a prune with so many words answers in the state s, and the state that it leaves: with a list that is not enough it is refused
-- by 17; else by 21 where no self-supporting table lies within the orders' table; else it leaves the largest one, and tells the cuts
abbrev pub PruneAnswers : Setting → Ledger → ℕ → State → Answer → State → Type 0
PruneAnswers w L room s (Ok Done) s' = ⊥
PruneAnswers w L room s (Ok (Marked stamp level)) s' = ⊥
PruneAnswers w L room s (Ok (Cut k)) s' =
    (words w s ≤ room) × Largest w L.ceiling (orders_table w L) s'.standing ×
    (starts w s.standing ≡ starts w s'.standing + k)
PruneAnswers w L room s (Err e) s' =
    (s' ≡ s) ×
    (((e ≡ TooShort) × (room < words w s)) ⊎ ((e ≡ Hopeless) × (words w s ≤ room) × NoneWithin w L.ceiling (orders_table w L)))

-- what a prune owes after a history
pub record Right (w : Setting) (h : History) (room : ℕ) (s : State) (a : Answer) (s' : State) : Type 0 where
  -- the history goes on by it
  pub reached : Reached w (longer h (Prune room) a) s'
  pub before : Good w (told h) s
  pub after : Good w (told h) s'
  pub answers : PruneAnswers w (told h) room s a s'
  -- with a list that is enough it is hopeless exactly when no self-supporting table lies within the orders' table
  pub hopeless : words w s ≤ room → (a ≡ Err Hopeless) ↔ NoneWithin w (told h).ceiling (orders_table w (told h))

-- what holds of whole runs of calls
pub record WholeRuns (w : Setting) : Type 0 where
  -- a history begins with sealing, and goes on by each call
  pub sealing : (stamp U : ℕ) → Reached w (just_sealed stamp U) (sealed w stamp U)
  pub onward : (h : History) (s s' : State) (c : Call) (a : Answer) → Reached w h s → Means w s c a s' → Reached w (longer h c a) s'
  -- the token that a mark answers is of the newest level, and there is such a level where a token is of it
  pub marked : (s s' : State) (stamp level : ℕ) → Means w s Mark (Ok (Marked stamp level)) s' → Newest s' stamp level
  pub tokens : (s : State) (stamp level : ℕ) → Newest s stamp level → (A : Table) × (As : List Table) × (s.levels ≡ A ∷ As)
  -- after every history, and of a prune there
  pub good : (h : History) (s : State) → Reached w h s → Good w (told h) s
  pub prunes : (h : History) (room : ℕ) (s s' : State) (a : Answer) → Reached w h s → Means w s (Prune room) a s' → Right w h room s a s'

-- so it is for every list of tickets
abbrev pub EveryRun : Type 0
EveryRun = (ts : List Ticket) → WholeRuns (setting ts)
