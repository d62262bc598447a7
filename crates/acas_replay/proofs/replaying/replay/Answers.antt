use Rattle.std.proofs.Common.{refl}
use Rattle.acas_replay.specs.Encounter.{seconds}
use Rattle.acas_replay.specs.Replay.{contacts, replay_text}
use Rattle.acas_replay.proofs.Courses.{some_course}
use Rattle.acas_replay.proofs.replaying.replay.Goals as goal

pub returns-in-Ok-write_whole-clause-replay : goal.returns-in-Ok-write_whole-clause-replay
returns-in-Ok-write_whole-clause-replay g c =
    let m = c.args.model.now in
    let e = c.args.encounter.now in
    let course = some_course m c.args.advices.now e c.grid.ensures.valid c.seconds.ensures.valid in (
      replay_text m e course.0,
      record { course = course.0; is_course = course.1; counted = c.in-Ok-write_whole.ensures.counted course.0 course.1; printed = refl },
      c.in-Ok-write_whole.ensures.ok course.0 course.1,
    )

pub returns-clause-part : goal.returns-clause-part
returns-clause-part g c = λ x.
    let m = c.args.model.now in
    let e = c.args.encounter.now in
    let course = some_course m c.args.advices.now e c.grid.ensures.valid c.seconds.ensures.valid in (
      contacts course.0 (seconds e),
      replay_text m e course.0,
      record { course = course.0; is_course = course.1; counted = refl; printed = refl },
      c.in-Err.ensures.err course.0 course.1,
    )
