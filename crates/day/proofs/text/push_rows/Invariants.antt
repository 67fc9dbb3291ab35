use Rattle.std.proofs.Common.{◌≡◌, ◌++◌, map, drop, string_bytes}
use Rattle.tickets.specs.Collections.{terms_of}
use Rattle.day.specs.Texts.{rows}
use Rattle.day.proofs.text.push_rows.Given as goal

abbrev pub invariant-loop-number : goal.invariant-loop-number
invariant-loop-number l = string_bytes l.text ++ rows l.number-counter (map terms_of (drop l.number-counter l.tickets)) ≡ string_bytes l.initial.text ++ rows 0 (map terms_of l.tickets)
