use Rattle.std.proofs.Common.{◌≡◌, arith}
use Rattle.std.proofs.lemmas.Result.{on_ok_weaker}
use Rattle.acas_table_text.specs.Format.{format_of}
use Rattle.acas_table.proofs.Front.{front_given, letters_given}
use Rattle.acas_table.proofs.Answered.{answered}
use Rattle.acas_table.proofs.header.read_format.Goals as goal

pub returns-in_err-check-clause-given : goal.returns-in_err-check-clause-given
returns-in_err-check-clause-given g c =
    letters_given (λ format bytes. format_of bytes ≡ format) _ c.args.name.now c.args.source.now c.check.new.self _ c.from_residual.result (answered _ c.from_residual.ensures.1) c.requires.place c.in_err-check.ensures.given

pub returns-clause-given : goal.returns-clause-given
returns-clause-given g c =
    let step = c.in_ok-check.ensures.steps in
    front_given _ _ c.args.name.now c.args.source.now c.check.new.self c.version.new.self c.version.result c.in_ok-check.ensures.reads.frame.holds c.requires.place
    (omega (arith, step.place, c.requires.place)) step.expected
    (on_ok_weaker c.version.result (λ steps. omega (arith, steps.place, step.place, c.requires.place)) c.version.ensures.steps)
    c.in_ok-check.ensures.given c.version.ensures.given
