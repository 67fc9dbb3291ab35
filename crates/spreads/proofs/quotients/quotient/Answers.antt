use Rattle.std.proofs.Common.{◌≡◌, ℕ, ◌-◌, ◌*◌, get_or, subst, sym, arith}
use Rattle.std.proofs.lemmas.Grind.{common_steps}
use Rattle.spreads.proofs.Table.{table, rule}
use Rattle.spreads.proofs.quotients.quotient.Goals as goal

pub returns : goal.returns
returns c = record { exact = λ l h. subst (λ (n : ℕ). get_or table (n - 1) 0 * c.args.length ≡ 720720) (sym c.from.ensures) (rule c.args.length l h); none = λ o. grind (arith, common_steps) }
