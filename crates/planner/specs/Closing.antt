-- Spending the newest level's token. Assumes nothing.
use Rattle.std.specs.Prelude.{◌≡◌, Ok, Err, Result}
use Rattle.tickets.specs.declared.planner_refusal.PlannerRefusal.TheVariants.{StaleToken}
use Rattle.stores.specs.Sets.{Rows}
use Rattle.runs.specs.Planner.{Newest}
use Rattle.planner.specs.declared.state.Planner.{Planner}
use Rattle.planner.specs.declared.token.Token.{Token}
use Rattle.planner.specs.declared.token.TokenRefused.{TokenRefused}
use Rattle.planner.specs.States.{state_of}

-- the token was not the newest level's: it is handed back
pub record Stale {S : Type 0} (rows : S → Rows) (p : Planner S) (t : Token) (x : TokenRefused) : Type 0 where
  pub not_newest : Newest (state_of rows p) t.stamp t.level → ⊥
  pub refusal : x.refusal ≡ StaleToken
  pub token : x.token ≡ t

-- the token was the newest level's of p, and is spent; or it was not
abbrev pub Spent : {S : Type 0} → (S → Rows) → Planner S → Token → Result Unit TokenRefused → Type 0
Spent rows p t (Ok _) = Newest (state_of rows p) t.stamp t.level
Spent rows p t (Err x) = Stale rows p t x
