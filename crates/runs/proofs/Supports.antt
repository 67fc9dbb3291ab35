-- The laws of support hold of the spreads of tickets. Assumes nothing.
use Rattle.std.proofs.Common.{◌≡◌, ℕ, ◌*◌, ◌<◌, ◌≤◌, ◌↔◌, List, length, le_trans, le_refl, mul-le-mul_left, arith}
use Rattle.tickets.specs.declared.ticket.Ticket.{Ticket}
use Rattle.spreads.specs.Spreads.{ticket, release}
use Rattle.spreads.specs.Pinned.{LeastPinned}
use Rattle.spreads.proofs.Rises.{looser_pinned}
use Rattle.spreads.proofs.Plans.{plan_is_spread, pins}
use Rattle.runs.specs.Tables.{Table, Plan, Releases, Supported}
use Rattle.runs.specs.Supports.{Supports, Affords, setting, SupportLaws}
use Rattle.runs.proofs.Tables.{Laws, releases_early}

module _ (ts : List Ticket) where
  fall : (r r' : ℕ → ℕ) (i t U : ℕ) → ((j : ℕ) → j < length ts → (i ≡ j → ⊥) → r' j ≤ r j) → Supports ts r i t U → Supports ts r' i t U
  fall r r' i t U h (L, s, le) = (L, looser_pinned ts r r' i t L h s, le)

  rise : (r : ℕ → ℕ) (i t U V : ℕ) → U ≤ V → Supports ts r i t U → Supports ts r i t V
  rise r i t U V up (L, s, le) = (L, s, le_trans le (mul-le-mul_left 720720 up))

  plan : (s : Plan) (U : ℕ) → Affords ts s U → (i : ℕ) → i < length ts → Supports ts s i (s i) U
  plan s U a i l =
      let (L, spread, plays, is) = plan_is_spread ts s s a.apart (λ j _. le_refl _) in
      (L, pins ts s i (s i) L spread (plays i l), rw is (mul-le-mul_left 720720 a.cheap))

  pub priced : (rs : List ℕ) (i t c U : ℕ) → LeastPinned ts rs i t c → Supports ts (release rs) i t U ↔ (c ≤ 720720 * U)
  priced rs i t c U h = (λ (L, s, le). le_trans (h.least L s) le, λ le. (h.met.0, h.met.1, omega (arith, le, h.met.2)))

  pub in_table :
      (T : Table) (rs : List ℕ) (i t c U : ℕ) → Releases (setting ts) T (release rs) → LeastPinned ts rs i t c →
      Supported (setting ts) U T i t ↔ (c ≤ 720720 * U)
  in_table T rs i t c U rel h = (
    λ (r, q, s). (priced rs i t c U h).0 (fall r (release rs) i t U (λ j l _. releases_early (setting ts) rel j (r j) l (q j l).held) s),
    λ le. (release rs, rel, (priced rs i t c U h).1 le),
  )

  -- what runs assume of a setting
  pub laws : Laws (setting ts)
  laws = record { rows = λ i _. (ticket ts i).ordered; fall = λ r r' i t U h. fall r r' i t U (λ j l _. h j l); rise = rise; plan = plan }

pub support_laws : SupportLaws
support_laws ts = record { fall = fall ts; rise = rise ts; plan = plan ts; priced = priced ts; in_table = in_table ts }
