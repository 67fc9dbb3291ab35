use Rattle.std.proofs.Common.{refl}
use Rattle.runs.proofs.Tokens.{means_levels, marked_newest, newest_same, undo_taken}
use Rattle.client.proofs.try_ban.Goals as goal

-- the ban leaves the levels as they are, so the mark's token is of the newest one
pub unreachable-requires : goal.unreachable-requires
unreachable-requires c =
    undo_taken _ _ _ _ _ _
    (newest_same _ _ _ _ (means_levels _ _ _ _ _ refl c.ban.ensures.means) (marked_newest _ _ _ _ _ c.in-Ok.ensures.means))
    c.in-Err.ensures.moved.means
