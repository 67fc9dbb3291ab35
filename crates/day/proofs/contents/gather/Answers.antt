use Rattle.std.proofs.lemmas.Result.{err_from_is_err_and}
use Rattle.day.specs.Contents.{gathered}
use Rattle.day.proofs.Outcomes.{blank, no_record, next_record, contents_fault, form_found, all_found}
use Rattle.day.proofs.contents.gather.Goals as goal

pub loop-placed-init : goal.loop-placed-init
loop-placed-init c = no_record c.deref-placed-items.result.now _ c.new-contents.ensures

pub returns-in_err-take : goal.returns-in_err-take
returns-in_err-take c =
    let p = err_from_is_err_and c.from_residual-in_err-take.result c.from_residual-in_err-take.ensures.1 in
    rw (p.1, p.2) (contents_fault _ _ c.in_ok-reading.ensures.read _ c.deref-placed-items.ensures.value c.loop-placed.placed-index blank (gathered c.loop-placed.contents) (gathered c.take.new.self) _ c.loop-placed-test.true c.loop-placed.invariant c.in_err-take.ensures)

pub loop-placed-preserved : goal.loop-placed-preserved
loop-placed-preserved c =
    next_record c.deref-placed-items.result.now c.loop-placed.placed-index blank (gathered c.loop-placed.contents) (gathered c.take.new.self) tt c.loop-placed-test.true c.loop-placed.invariant c.in_ok-take.ensures

pub returns-in-Some : goal.returns-in-Some
returns-in-Some c =
    rw (c.into.ensures, c.from.ensures) (form_found _ _ c.in_ok-reading.ensures.read _ c.deref-placed-items.ensures.value _ (gathered c.loop-placed.contents) _ c.loop-placed-test.false c.loop-placed.invariant c.in-Some.is)

pub returns : goal.returns
returns c = all_found _ _ c.in_ok-reading.ensures.read _ c.deref-placed-items.ensures.value _ (gathered c.loop-placed.contents) c.loop-placed-test.false c.loop-placed.invariant c.in-None.is
