use Rattle.std.proofs.Common.{length, refl, ap, arith}
use Rattle.std.proofs.lemmas.Result.{err_from_is_err_and}
use Rattle.ticket_file.specs.Readings.{plain}
use Rattle.ticket_file.proofs.Steps.{framed, lies, hands, past_end, unnamed, misfits, disordered, kind_is, spot_is}
use Rattle.ticket_file.proofs.cursor.Cursor.record.Goals as goal

pub returns-in_err-letter : goal.returns-in_err-letter
returns-in_err-letter c = λ rs r.
    let p = err_from_is_err_and c.from_residual.result c.from_residual.ensures.1 in
    rw (p.1, p.2) (past_end _ _ _ rs r _ c.requires _ refl c.in_err-letter.ensures)

pub returns-in_err-kind : goal.returns-in_err-kind
returns-in_err-kind c = λ rs r.
    let p = err_from_is_err_and c.from_residual-in_err-kind.result c.from_residual-in_err-kind.ensures.1 in
    rw (p.1, p.2) (unnamed _ _ _ rs r _ _ _ (framed _ _ _ _ _ c.in_ok-letter.ensures) c.in_err-kind.ensures)

pub returns-in_err-record : goal.returns-in_err-record
returns-in_err-record c = λ rs r.
    let p = err_from_is_err_and c.from_residual-in_err-record.result c.from_residual-in_err-record.ensures.1 in
    rw (p.1, p.2) (misfits _ _ _ rs r c.in_ok-kind.kind _ _ (framed _ _ _ _ _ (rw (← c.in_ok-kind.ensures) at c.in_ok-letter.ensures)) c.in_err-record.ensures)

pub returns-in_err-self : goal.returns-in_err-self
returns-in_err-self c = λ rs r.
    let p = err_from_is_err_and c.from_residual-in_err-self.result c.from_residual-in_err-self.ensures.1 in
    let frame = framed _ _ _ _ _ (rw (← c.in_ok-kind.ensures) at c.in_ok-letter.ensures) in
    let decoded = c.in_ok-record.ensures in
    rw (p.1, p.2) (disordered _ _ _ rs r (plain c.in_ok-record.record) _ (lies _ _ _ _ _ frame decoded) (rw (kind_is _ _ _ _ decoded) (c.in_err-self.ensures _ r.follows)))

pub returns : goal.returns
returns c = λ rs r.
    let frame = framed _ _ _ _ _ (rw (← c.in_ok-kind.ensures) at c.in_ok-letter.ensures) in
    let decoded = c.in_ok-record.ensures in (
      hands _ _ _ rs r (plain c.in_ok-record.record) _ (lies _ _ _ _ _ frame decoded) (rw (kind_is _ _ _ _ decoded) (c.in_ok-self.ensures _ r.follows)) _ (omega (arith, ap length decoded.is)),
      refl,
      spot_is _ _ _ decoded.label,
      omega arith,
    )
