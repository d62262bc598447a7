use Rattle.std.proofs.Common.{ap, arith}
use Rattle.acas_outside.specs.Once.{length_of_file}
use Rattle.acas_run_laws.proofs.taken.files_taken_once_give_their_bytes.Goals as goal

pub returns : goal.returns
returns c = record {
  none = λ files before after takes. omega (arith, takes);
  absent = λ name files before after takes none. omega (arith, takes, ap length_of_file none);
  one = λ name bytes files before after takes there. omega (arith, takes, ap length_of_file there);
  two = λ first second bytes more files before after takes there too. omega (arith, takes, ap length_of_file there, ap length_of_file too);
}
