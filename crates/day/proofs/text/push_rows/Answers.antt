use Rattle.std.proofs.Common.{map, refl}
use Rattle.tickets.specs.Collections.{terms_of}
use Rattle.day.specs.Texts.{row_line, rows}
use Rattle.day.proofs.Lines.{one_line, no_line}
use Rattle.day.proofs.text.push_rows.Goals as goal

pub loop-number-preserved : goal.loop-number-preserved
loop-number-preserved c =
    let k = c.loop-number.number-counter in
    one_line (λ n ts. rows n (map terms_of ts)) (λ t. row_line k (terms_of t)) _ _ c.args.tickets.now k c.loop-number.invariant _ c.index-tickets-number.result c.loop-number-test.true (rw (← c.index-tickets-number.is) c.in_ok-writeln.ensures.bytes) (λ x ys. refl)

pub returns : goal.returns
returns c = no_line (λ n ts. rows n (map terms_of ts)) (λ t. row_line 0 (terms_of t)) _ _ c.args.tickets.now c.loop-number.number-counter c.loop-number.invariant c.loop-number-test.false refl
