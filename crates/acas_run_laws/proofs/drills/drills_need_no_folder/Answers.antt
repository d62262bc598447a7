use Rattle.std.proofs.Common.{ap}
use Rattle.acas_outside.specs.Outside.{Outside}
use Rattle.acas_run_laws.proofs.Causes.{may_print-code}
use Rattle.acas_run_laws.proofs.DrillsAlone.{drill-begun, drill-codes, drill-printed}
use Rattle.acas_run_laws.proofs.drills.drills_need_no_folder.Goals as goal

pub returns : goal.returns
returns c = record {
  folder = λ number cause before after a. (
    ap (λ (o : Outside). o.holds) a.alone,
    ap (λ (o : Outside). o.misses) a.alone,
    ap (λ (o : Outside). o.taken) a.alone,
    ap (λ (o : Outside). o.faults) a.alone,
  );
  done = λ number cause before after a code.
      let p = drill-printed number cause before after (may_print-code cause code) a in
      (p.reported, p.text, p.report, p.ends, p.printed);
  cut = λ number before after a.
      let b = drill-begun number before after a in
      (b.reported, b.text, b.drilled, b.part.count, b.part.proper, b.part.appended);
  ends = λ number cause before after a. drill-codes cause a.ends;
}
