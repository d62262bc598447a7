use Rattle.acas_pass_lemmas.proofs.Gentle.{each_gentle}
use Rattle.acas_flight_laws.proofs.passes.passes_are_gentle.Goals as goal

pub returns : goal.returns
returns c = each_gentle
