use Rattle.std.proofs.Common.{refl}
use Rattle.std.specs.Fmt.{digits}
use Rattle.acas_drill_model.specs.Word.{drill_number, number_within}
use Rattle.acas_run_laws.proofs.words.words_have_their_forms.Goals as goal

pub returns-clause-manoeuvre : goal.returns-clause-manoeuvre
unfolding number_within digits
returns-clause-manoeuvre c = refl

pub returns-clause-drill : goal.returns-clause-drill
unfolding drill_number number_within digits
returns-clause-drill c = refl

pub returns-clause-leading_zero : goal.returns-clause-leading_zero
unfolding drill_number number_within digits
returns-clause-leading_zero c = refl
