use Rattle.acas_run_laws.proofs.worth.files_say_what_they_hold.Goals as goal

pub returns : goal.returns
returns c = record {
  model = λ files name bytes m s. (s.file, s.short, s.text);
  table = λ model table files m t s. (s.bytes, s.given, s.says, s.file, s.accepted);
  rejected = λ model table files s. (s.bytes, s.m, s.given, s.says, s.file, s.none);
}
