use Rattle.acas_flight_lemmas.proofs.Models.{demand_can_be_met}
use Rattle.acas_ruling_laws.proofs.Ones.{witness-one}
use Rattle.acas_ruling_laws.proofs.Somes.{not_clear}
use Rattle.acas_ruling_laws.proofs.laws.witnesses_are_one.Goals as goal

pub returns-clause-some : goal.returns-clause-some
returns-clause-some c = λ m advisory area w is known altitude own intruder ends clear.
    let x = not_clear m advisory area w is known (record { altitude = altitude; own = own; intruder = intruder }) ends clear in
    (x.flight, x.is, x.reduced)

pub returns-clause-one : goal.returns-clause-one
returns-clause-one c = λ m advisory area w f g is known i j r s.
    witness-one m.half _ area w w f g (demand_can_be_met m advisory is known) (λ q t p. (λ d. d, λ d. d)) i j r s
