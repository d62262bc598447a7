use Rattle.acas_rulings.proofs.intruder_laws.meetings_in_numbers.Goals as goal

pub returns : goal.returns
returns c = λ m advisory may box q s response flight. (
  λ i. (i.some, i.inside, i.meets, i.flown, i.together, i.horizontal, i.vertical),
  λ i. record { some = i.0; inside = i.1; meets = i.2; flown = i.3; together = i.4; horizontal = i.5; vertical = i.6 },
)
