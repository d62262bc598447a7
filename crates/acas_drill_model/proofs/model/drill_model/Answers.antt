use Rattle.std.proofs.Common.{◌≡◌, ◌+◌, ◌%◌, pos, to_z, of_z, w64, arith}
use Rattle.std.proofs.lemmas.Int.{ints}
use Rattle.acas_drill_model.proofs.WithinLimits.{model_within}
use Rattle.acas_drill_model.proofs.model.drill_model.Goals as goal

pub new-requires : goal.new-requires
new-requires c =
    let contact : to_z w64 (of_z w64 c.from.result) ≡ pos (1000 + c.args.number % 9000) = omega (arith, ints) in
    rw (c.in_ok-grid.ensures, contact, c.in_ok-advisories.ensures, c.in_ok-choices.ensures, c.in_ok-sigmas.ensures) (model_within c.args.number)
