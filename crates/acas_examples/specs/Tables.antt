-- Entries of compiled tables, and tables that differ from them.
use Rattle.std.specs.Prelude.{◌≡◌, ℕ, suc, ℤ, ◌+ℤ◌, List, [], ◌∷◌, map, nat_eq, if◌then◌else◌}
use Rattle.acas_spec.specs.Model.{ModelData}
use Rattle.acas_spec.specs.Table.{Table}
use Rattle.acas_spec.specs.declared.place.Point.{Point}
use Rattle.acas_spec.specs.declared.place.Vertex.{Vertex}
use Rattle.acas_frac.specs.Rounding.{down, up}
use Rattle.acas_process.specs.Values.{interpolated}
use Rattle.acas_process.specs.Compiled.{compiled, compiled_values}
use Rattle.acas_process.specs.Step.{moved, share}
use Rattle.acas_examples.specs.Parts.{vertex}

-- the vertices of two altitudes and two times two rates, by number
abbrev pub eight_vertices : List Vertex
eight_vertices =
    vertex 0 0 0 ∷ vertex 0 0 1 ∷ vertex 0 1 0 ∷ vertex 0 1 1 ∷ vertex 1 0 0 ∷ vertex 1 0 1 ∷ vertex 1 1 0 ∷ vertex 1 1 1 ∷ []

-- the shares of these at a point
abbrev pub shares : ModelData → Point → List ℕ
shares m s = map (λ y. share m.grid s y) eight_vertices

-- under clear with n + 1 seconds to go at the vertex x: the interpolated value of each of three sigma points, and the compiled value
abbrev pub row : (ℤ → ℤ → ℤ) → ModelData → ℕ → Vertex → List ℤ
row round m n x =
    let at : ℕ → ℤ = λ q. interpolated round m (compiled_values round m n) 0 (moved m x 0 q) in
    at 0 ∷ at 1 ∷ at 2 ∷ compiled_values round m (suc n) 0 x ∷ []

-- these values, rounded up and rounded down
pub record HasRows (m : ModelData) (n : ℕ) (x : Vertex) (upper lower : List ℤ) : Type 0 where
  pub at_upper : row up m n x ≡ upper
  pub at_lower : row down m n x ≡ lower

-- the entry of the compiled table
pub record HasEntry (m : ModelData) (n p : ℕ) (x : Vertex) (upper lower : ℤ) (advice : ℕ) : Type 0 where
  pub at_upper : (compiled m).upper n p x ≡ upper
  pub at_lower : (compiled m).lower n p x ≡ lower
  pub at_advice : (compiled m).advice n p x ≡ advice

-- the compiled table, where with so many seconds to go so much is added to each upper and each lower value, and this is each advice
abbrev pub altered : ModelData → ℕ → ℤ → ℤ → ℕ → Table
altered m seconds more_upper more_lower advice =
    let t : Table = compiled m in
    record {
      upper = λ n p x. if nat_eq n seconds then t.upper n p x +ℤ more_upper else t.upper n p x;
      lower = λ n p x. if nat_eq n seconds then t.lower n p x +ℤ more_lower else t.lower n p x;
      advice = λ n p x. if nat_eq n seconds then advice else t.advice n p x;
    }
