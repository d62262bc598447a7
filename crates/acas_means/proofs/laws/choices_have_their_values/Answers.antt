use Rattle.std.proofs.Common.{◌+ℤ◌, ap, sym}
use Rattle.acas_process.specs.Values.{mean_value, millionths}
use Rattle.acas_process.proofs.ModelLaws.{cost_is_own}
use Rattle.acas_means.specs.Choices.{listed_choice, no_choice}
use Rattle.acas_means.proofs.laws.choices_have_their_values.Goals as goal

pub returns : goal.returns
returns c = λ round m below x p place valid known within.
    ap (λ z. mean_value round m below x (listed_choice m p place).advisory +ℤ millionths z) (sym (cost_is_own m p place no_choice valid known within))
