-- The compiled table is accepted.
use Rattle.std.proofs.Common.{ℕ, ◌<◌, ◌^◌, ℤ, List, refl, arith, inl, inr, unsigned_abs, w64}
use Rattle.std.proofs.lemmas.Int.{ints}
use Rattle.std.specs.Prelude.{FitsSigned}
use Rattle.acas_spec.specs.Limits.{IsModel}
use Rattle.acas_spec.specs.Model.{ModelData}
use Rattle.acas_frac.specs.Rounding.{down, up}
use Rattle.acas_process.specs.Compiled.{compiled}
use Rattle.acas_policies.proofs.CompiledBounds.{compiled_is_sound}
use Rattle.acas_process.proofs.SizeLaws.{compiled_size}
use Rattle.acas_table_text.specs.Layers.{table_text}
use Rattle.acas_table_text.specs.declared.format.Format.{Format}
use Rattle.acas_accept.specs.Accepted.{IsAcceptedTable}

small_fits : (z : ℤ) → unsigned_abs z < 2 ^ 63 → FitsSigned w64 z
small_fits z small = omega (arith, ints)

pub compiled_is_accepted : (m : ModelData) (f : Format) (digest : List ℕ) → IsModel m → IsAcceptedTable m digest (table_text f digest m.grid (compiled m)) (compiled m)
compiled_is_accepted m f digest v = record {
  writable = record {
    upper = λ n p x at. small_fits _ (omega (arith, compiled_size up (inr refl) m v n p x at.present, at.seconds, v.grid.horizon));
    lower = λ n p x at. small_fits _ (omega (arith, compiled_size down (inl refl) m v n p x at.present, at.seconds, v.grid.horizon));
    no_advice = λ p x at. refl;
  };
  sound = compiled_is_sound m v;
  format = f;
  text = refl;
}
