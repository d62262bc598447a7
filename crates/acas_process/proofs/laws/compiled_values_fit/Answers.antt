use Rattle.std.proofs.Common.{arith, inl, inr, refl}
use Rattle.acas_frac.specs.Rounding.{down, up}
use Rattle.acas_process.proofs.SizeLaws.{compiled_size}
use Rattle.acas_process.proofs.laws.compiled_values_fit.Goals as goal

pub returns-clause-upper_size : goal.returns-clause-upper_size
returns-clause-upper_size c m n p x v at = compiled_size up (inr refl) m v n p x at.present

pub returns-clause-lower_size : goal.returns-clause-lower_size
returns-clause-lower_size c m n p x v at = compiled_size down (inl refl) m v n p x at.present

pub returns-clause-upper : goal.returns-clause-upper
returns-clause-upper c m n p x v at = omega (arith, compiled_size up (inr refl) m v n p x at.present, at.seconds, v.grid.horizon)

pub returns-clause-lower : goal.returns-clause-lower
returns-clause-lower c m n p x v at = omega (arith, compiled_size down (inl refl) m v n p x at.present, at.seconds, v.grid.horizon)
