use Rattle.acas_rulings.proofs.intruder_laws.intruders_fly_within_two_numbers.Goals as goal

pub returns-clause-some : goal.returns-clause-some
returns-clause-some c = λ may v s rest. (
  λ f. (f.0.lasts, f.0.accel, f.0.before, f.0.after, f.1),
  λ f. (record { lasts = f.0; accel = f.1; before = f.2; after = f.3 }, f.4),
)
