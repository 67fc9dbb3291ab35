use Rattle.std.proofs.Common.{◌++◌, map, string_bytes, refl, ap, ◌∙◌}
use Rattle.std.specs.List.{flat_map}
use Rattle.day.specs.Contents.{banned}
use Rattle.day.specs.Texts.{ban_line}
use Rattle.day.proofs.Lines.{line_of_ban, one_line, no_line}
use Rattle.day.proofs.text.push_bans.Goals as goal

pub loop-ban-preserved : goal.loop-ban-preserved
loop-ban-preserved c =
    one_line (λ n bs. flat_map ban_line (map banned bs)) (λ b. ban_line (banned b)) _ _ c.args.bans.now c.loop-ban.ban-index c.loop-ban.invariant _ _ c.loop-ban-test.true
    (c.in_ok-writeln.ensures.bytes ∙ ap (λ l. string_bytes c.loop-ban.text ++ l) (line_of_ban _)) (λ x ys. refl)

pub returns : goal.returns
returns c = no_line (λ n bs. flat_map ban_line (map banned bs)) (λ b. ban_line (banned b)) _ _ c.args.bans.now c.loop-ban.ban-index c.loop-ban.invariant c.loop-ban-test.false refl
