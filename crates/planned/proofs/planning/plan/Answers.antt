use Rattle.std.proofs.Common.{vec_items, refl}
use Rattle.std.proofs.lemmas.Result.{err_from_is_err_and}
use Rattle.planned.specs.Records.{recs}
use Rattle.planned.specs.Reports.{faulty}
use Rattle.planned.proofs.Outcomes.{ordered_recs, form_found, all_found, posting_fault, banning_fault, sealed_ready, pruned_planned, pruned_hopeless}
use Rattle.planned.proofs.planning.plan.Goals as goal

pub returns-in_err-collection : goal.returns-in_err-collection
returns-in_err-collection c =
    let p = err_from_is_err_and c.from_residual-in_err-collection.result c.from_residual-in_err-collection.ensures.1 in
    rw (p.1, p.2) (posting_fault c.args.file.now c.in_ok-reading.reading c.in_ok-reading.ensures.read c.deref.result.now c.deref.ensures.value c.in_err-collection.field-0.0 c.in_err-collection.ensures)

pub ban_all-requires : goal.ban_all-requires
ban_all-requires c =
    let xs = vec_items c.in_ok-reading.reading.records in
    rw c.deref-2.ensures.value
    (sealed_ready xs c.in_ok-collection.collection c.seal-planner.result
    (ordered_recs c.args.file.now c.in_ok-reading.reading c.in_ok-reading.ensures.read xs refl)
    (rw c.deref.ensures.value at c.in_ok-collection.ensures) c.seal-planner.ensures)

pub returns-in_err-ban_all : goal.returns-in_err-ban_all
returns-in_err-ban_all c =
    let p = err_from_is_err_and c.from_residual-in_err-ban_all.result c.from_residual-in_err-ban_all.ensures.1 in
    rw (p.1, p.2) (banning_fault c.args.file.now c.in_ok-reading.reading c.in_ok-reading.ensures.read c.deref-2.result.now c.deref-2.ensures.value c.in_err-ban_all.field-0.0 c.ban_all.new.planner c.in_err-ban_all.ensures)

pub returns-in-Some : goal.returns-in-Some
returns-in-Some c =
    rw (c.into.ensures, c.from.ensures)
    (faulty (form_found c.args.file.now c.in_ok-reading.reading c.in_ok-reading.ensures.read c.deref-2.result.now c.deref-2.ensures.value c.in-Some.fault c.in_ok-ban_all.ensures.0 c.in-Some.is))

pub returns-in-Ok : goal.returns-in-Ok
returns-in-Ok c =
    let xs = c.deref-2.result.now in
    let m = c.ban_all.new.planner in
    let accepted = all_found c.args.file.now c.in_ok-reading.reading c.in_ok-reading.ensures.read xs c.deref-2.ensures.value m tt c.in_default.not-Some c.in_ok-ban_all.ensures in
    pruned_planned c.args.file.now (recs xs) m c.prune.new.self c.in_ok-ban_all.ensures.1 accepted _ _ c.in-Ok.field-0 c.in-Ok.ensures

pub returns : goal.returns
returns c =
    let xs = c.deref-2.result.now in
    let m = c.ban_all.new.planner in
    let accepted = all_found c.args.file.now c.in_ok-reading.reading c.in_ok-reading.ensures.read xs c.deref-2.ensures.value m tt c.in_default.not-Some c.in_ok-ban_all.ensures in
    pruned_hopeless c.args.file.now (recs xs) m c.prune.new.self c.in_ok-ban_all.ensures.1 accepted _ _ c.in-Err.refusal refl c.in-Err.ensures
