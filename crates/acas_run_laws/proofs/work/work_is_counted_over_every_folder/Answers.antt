use Rattle.acas_run_laws.proofs.Causes.{may_print-code}
use Rattle.acas_run_laws.proofs.Counted.{done-code}
use Rattle.acas_run_laws.proofs.work.work_is_counted_over_every_folder.Goals as goal

pub returns : goal.returns
returns c = record {
  values = λ model holds cause old new counts code. let s = counts.sweep.swept (done-code cause code) in (s.m, s.within, s.counted, s.turns);
  compile = λ model table holds cause old new counts code. let s = counts.sweep.swept (done-code cause code) in (s.m, s.within, s.counted, s.turns);
  audit = λ model table which holds cause old new counts code.
      let d = counts.audit.decided (may_print-code cause code) in (d.m, d.advices, d.within, d.fits, d.number, d.decided, d.raised);
}
