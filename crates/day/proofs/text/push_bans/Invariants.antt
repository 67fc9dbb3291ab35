use Rattle.std.proofs.Common.{◌≡◌, ◌++◌, map, drop, string_bytes}
use Rattle.std.specs.List.{flat_map}
use Rattle.day.specs.Contents.{banned}
use Rattle.day.specs.Texts.{ban_line}
use Rattle.day.proofs.text.push_bans.Given as goal

abbrev pub invariant-loop-ban : goal.invariant-loop-ban
invariant-loop-ban l = string_bytes l.text ++ flat_map ban_line (map banned (drop l.ban-index l.bans)) ≡ string_bytes l.initial.text ++ flat_map ban_line (map banned l.bans)
