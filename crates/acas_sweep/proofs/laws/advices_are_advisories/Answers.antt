use Rattle.std.proofs.Common.{◌≢◌, ℕ, zero, suc, ◌<◌, List, get_or, refl, sym, subst}
use Rattle.acas_spec.specs.Limits.{IsModel}
use Rattle.acas_spec.specs.Model.{ModelData, states}
use Rattle.acas_units.specs.declared.pair.Pair.{Pair}
use Rattle.acas_process.specs.Compiled.{compiled}
use Rattle.acas_sweep.proofs.CompiledLaws.{compiled_advice_within}
use Rattle.acas_grid.specs.States.{state_present, state_vertex}
use Rattle.acas_means.specs.Layer.{IsLayer}
use Rattle.acas_grid.proofs.StateNumbers.{state_present-below}
use Rattle.acas_sweep.proofs.laws.advices_are_advisories.Goals as goal

advised : (m : ModelData) (n : ℕ) (pairs : List Pair) (advice : List ℕ) → IsModel m → IsLayer m (compiled m) n pairs advice → (s : ℕ) → s < states m.grid → n ≢ 0 → get_or advice s 0 < m.grid.advisories
advised m zero pairs advice valid is s here above = absurd (above refl)
advised m (suc n) pairs advice valid is s here above =
    subst (λ (a : ℕ). a < m.grid.advisories) (sym (is.advices s here)) (compiled_advice_within m valid n (state_present m.grid s) (state_vertex m.grid s) (state_present-below m.grid s here))

pub returns : goal.returns
returns c = λ m n pairs advice valid is. record { known = advised m n pairs advice valid is }
