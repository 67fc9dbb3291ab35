-- Orders to a planner, and what they take out of a table. Assumes nothing.
use Rattle.std.specs.Prelude.{ℕ, not, ◌&&◌, ◌||◌, List, [], ◌∷◌, ◌==◌}
use Rattle.stores.specs.Sets.{without}
use Rattle.runs.specs.Tables.{Table, Setting, posted}

-- a ban or a fixing, with its ticket and its start
pub data Order : Type 0 where
  ban fix : ℕ → ℕ → Order

-- all that T holds, but of the row of ticket i only the start t
unfoldable pub fixed : Table → ℕ → ℕ → Table
fixed T i t j u = T j u && (not (j == i) || u == t)

-- the table, less what the order takes out: a ban one start, a fixing all others of its row
abbrev pub less : Order → Table → Table
less (ban i t) T = without T i t
less (fix i t) T = fixed T i t

-- the orders' table: the posted rows, less what each order takes out
abbrev pub ordered : Setting → List Order → Table
ordered w [] = posted w
ordered w (o ∷ os) = less o (ordered w os)
