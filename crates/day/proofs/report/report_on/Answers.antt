use Rattle.std.proofs.Common.{refl, ◌∙◌}
use Rattle.day.proofs.Lines.{line_of_fault}
use Rattle.day.proofs.Outcomes.{reports_listing, reports_fault}
use Rattle.day.proofs.report.report_on.Goals as goal

pub returns-in_ok-listing-in-Ok : goal.returns-in_ok-listing-in-Ok
returns-in_ok-listing-in-Ok c =
    let told = c.in-Ok.ensures in
    reports_listing _ _ _ told.0 told.1 told.2 refl c.in_ok-listing-in-Ok.ensures

pub returns-in_ok-format-in-Err-Refused : goal.returns-in_ok-format-in-Err-Refused
returns-in_ok-format-in-Err-Refused c = reports_fault _ _ c.in-Err-Refused.fault (rw c.in-Err-Refused.field-0-is at c.in-Err-Refused.ensures) refl (c.in_ok-format-in-Err-Refused.ensures.ok ∙ line_of_fault _ _)
