use Rattle.acas_run_laws.proofs.Causes.{may_print-code}
use Rattle.acas_run_laws.proofs.Counted.{done-code}
use Rattle.acas_run_laws.proofs.work.done_runs_are_counted.Goals as goal

pub returns : goal.returns
returns c = record {
  values = λ model files cause old new counts code. let s = counts.sweep.swept (done-code cause code) in (s.digest, s.m, s.says, s.counted, s.turns);
  compile = λ model table files cause old new counts code. let s = counts.sweep.swept (done-code cause code) in (s.digest, s.m, s.says, s.counted, s.turns);
  audit = λ model table which files cause old new counts code.
      let d = counts.audit.decided (may_print-code cause code) in (d.m, d.advices, d.advised, d.number, d.decided, d.raised);
}
