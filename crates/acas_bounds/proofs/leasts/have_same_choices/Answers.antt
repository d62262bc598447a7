use Rattle.std.proofs.Common.{◌∙◌, sym}
use Rattle.std.proofs.lemmas.Slice.Eq.{slice_eq-Decides}
use Rattle.acas_bounds.proofs.SharedChoices.{choice_eq-Decides}
use Rattle.acas_bounds.proofs.leasts.have_same_choices.Goals as goal

pub returns : goal.returns
returns c =
    let decides = slice_eq-Decides choice_eq-Decides _ _ _ c.eq.ensures in
    (λ same. sym c.choices.ensures ∙ decides.0 same ∙ c.choices-2.ensures, λ equal. decides.1 (c.choices.ensures ∙ equal ∙ sym c.choices-2.ensures))
