use Rattle.acas_run_laws.proofs.reports.files_beside_a_model_say_what_they_hold.Goals as goal

pub returns : goal.returns
returns c = record {
  boxes = λ model boxes files m said s. (s.bytes, s.given, s.says, s.file, s.short, s.text);
  rejected = λ model boxes files s. (s.bytes, s.m, s.given, s.says, s.file, s.none);
  advices = λ model table files m advices s. (s.t, s.says, s.tabled.each);
}
