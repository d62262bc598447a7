use Rattle.std.proofs.Common.{refl}
use Rattle.acas_safeable.specs.SafeableText.{safeable_text}
use Rattle.acas_safeable.proofs.SomeOutlooks.{some_outlooks}
use Rattle.acas_safeable.proofs.report.write_safeable.Goals as goal

pub returns-in-Ok-write_whole-clause-report : goal.returns-in-Ok-write_whole-clause-report
returns-in-Ok-write_whole-clause-report g c =
    let m = c.args.model.now in
    let a = c.args.advices.now in
    let some = some_outlooks m a c.grid.ensures.valid in (
      safeable_text m a some.0,
      record { found = some.0; outlooks = some.1; counted = c.in-Ok-write_whole.ensures.counted some.0 some.1; printed = refl },
      c.in-Ok-write_whole.ensures.ok some.0 some.1,
    )

pub returns-in-Err-clause-part : goal.returns-in-Err-clause-part
returns-in-Err-clause-part g c = λ x.
    let some = some_outlooks c.args.model.now c.args.advices.now c.grid.ensures.valid in
    record { found = some.0; outlooks = some.1; part = c.in-Err.ensures.err some.0 some.1 }
