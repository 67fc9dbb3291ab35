use Rattle.std.proofs.Common.{[], ◌∷◌, map, refl, ap, inl}
use Rattle.std.proofs.lemmas.Slice.{pushed}
use Rattle.ticket_file.specs.Readings.{seen}
use Rattle.ticket_file.proofs.Whole.{more, faulted, ended, stopped}
use Rattle.ticket_file.proofs.reading.read.Goals as goal
use Rattle.ticket_file.proofs.reading.read.Goals.{in-Ok-None, in-Err-next}

pub returns-in-Err-clause-read : goal.returns-in-Err-clause-read
returns-in-Err-clause-read c =
    let told = c.in-Err.ensures in
    faulted _ _ [] _ (ap (map seen) c.new-records.ensures.items) refl told.1 (inl (told.0, refl))

pub loop-placed-preserved : goal.loop-placed-preserved
loop-placed-preserved c =
    let inv = c.loop-placed.invariant in
    let items = pushed (c.in-Ok-Some.placed ∷ []) refl c.in_ok-push-in-Ok-Some.was c.push.ensures.items in
    more _ _ _ _ _ c.in-Ok-Some.placed inv items (rw c.in-Ok-Some.field-0-is at (c.in-Ok-Some.ensures inv.rs inv.sofar))

pub returns-clause-read : goal.returns-clause-read
returns-clause-read c =
    let inv = c.loop-placed.invariant in
    elim c.match-next.branch [
      | in-Ok-None w ↦ ended _ _ _ inv w.fault-is (rw w.in-Ok-None.field-0-is at (w.in-Ok-None.ensures inv.rs inv.sofar))
      | in-Err-next w ↦ stopped _ _ _ _ inv w.fault-is (w.in-Err-next.ensures inv.rs inv.sofar)
    ]
