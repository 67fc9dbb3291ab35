use Rattle.std.proofs.Common.{vec_items, refl, ap, ◌∙◌}
use Rattle.planned.proofs.Verdict.{line_of_fault, reports_listing, reports_fault}
use Rattle.planned.proofs.report.report_on.Goals as goal

pub returns-in_ok-listing_text-in-Ok-clause-report : goal.returns-in_ok-listing_text-in-Ok-clause-report
returns-in_ok-listing_text-in-Ok-clause-report c = reports_listing c.args.file.now _ _ _ _ c.in-Ok.ensures refl c.in_ok-listing_text-in-Ok.ensures

pub returns-in_ok-format-in-Err-Refused-clause-report : goal.returns-in_ok-format-in-Err-Refused-clause-report
returns-in_ok-format-in-Err-Refused-clause-report c =
    let fault = c.in-Err-Refused.fault in
    reports_fault c.args.file.now _ fault (rw c.in-Err-Refused.field-0-is at c.in-Err-Refused.ensures) refl
    (ap vec_items c.into_bytes.ensures.value ∙ c.in_ok-format-in-Err-Refused.ensures.ok ∙ line_of_fault fault)
