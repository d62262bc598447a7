use Rattle.std.proofs.Common.{List, get_or, subst, sym}
use Rattle.acas_spec.specs.declared.parts.Choice.{Choice}
use Rattle.acas_process.specs.Cost.{IsKnownChoice}
use Rattle.acas_process.proofs.ModelLaws.{known_choice}
use Rattle.acas_means.specs.Choices.{no_choice}
use Rattle.acas_means.proofs.choices.choice_among.Goals as goal

pub returns-clause-known : goal.returns-clause-known
returns-clause-known c =
    subst (λ (cs : List Choice). IsKnownChoice c.args.model.now c.args.present (get_or cs c.args.place no_choice)) (sym c.requires.choices)
    (known_choice c.args.model.now c.args.present c.args.place no_choice c.grid.ensures.valid c.requires.present c.requires.place)
