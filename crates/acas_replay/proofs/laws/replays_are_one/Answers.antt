use Rattle.std.proofs.Common.{◌∙◌, refl, sym, arith}
use Rattle.acas_replay.specs.Encounter.{seconds}
use Rattle.acas_replay.specs.Replay.{contacts, replay_text}
use Rattle.acas_replay.proofs.Courses.{counts_same, some_course}
use Rattle.acas_replay.proofs.Texts.{texts_same}
use Rattle.acas_replay.proofs.laws.replays_are_one.Goals as goal

pub returns-clause-some : goal.returns-clause-some
returns-clause-some c = λ m a e is valid.
    let course = some_course m a e is valid in
    (contacts course.0 (seconds e), replay_text m e course.0, record { course = course.0; is_course = course.1; counted = refl; printed = refl })

pub returns-clause-one : goal.returns-clause-one
returns-clause-one c = λ m a e count other_count text other_text is other. (
  is.counted ∙ counts_same m a e is.course other.course is.is_course other.is_course (seconds e) (omega arith) ∙ sym other.counted,
  is.printed ∙ texts_same m a e is.course other.course is.is_course other.is_course ∙ sym other.printed,
)
