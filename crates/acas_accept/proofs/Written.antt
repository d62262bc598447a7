-- The text of a table whose entries are sound and fit is read as that table.
use Rattle.std.proofs.Common.{◌≡◌, ℕ, zero, suc, ◌<◌, ◌≤◌, Bool, cond, List, length, None, sym, ◌∙◌, ap, subst, arith, w64}
use Rattle.std.proofs.lemmas.Bool.{eq-eqb, le-ltb, lt-ltb}
use Rattle.std.specs.Prelude.{◌==◌, FitsSigned, nat_lt}
use Rattle.acas_spec.specs.Limits.{IsModel}
use Rattle.acas_spec.specs.Model.{ModelData, states}
use Rattle.acas_grid.specs.Grid.{state_number, vertex_number}
use Rattle.acas_spec.specs.declared.place.Vertex.{Vertex}
use Rattle.acas_units.specs.declared.pair.Entry.{Entry}
use Rattle.acas_spec.specs.Table.{Table}
use Rattle.acas_policies.specs.Bounds.{IsSound, IsSoundEntry}
use Rattle.acas_process.specs.Cost.{IsEntry}
use Rattle.acas_process.proofs.ModelLaws.{is_chosen}
use Rattle.acas_grid.specs.States.{state_present, state_vertex}
use Rattle.acas_table_text.specs.Faults.{advice_fault}
use Rattle.acas_table_text.specs.Layers.{layers_of, state_entry, table_text}
use Rattle.acas_table_text.specs.Shape.{shape_of}
use Rattle.acas_table_text.specs.Tables.{IsTable}
use Rattle.acas_table_text.specs.declared.format.Format.{Format}
use Rattle.acas_table_text.proofs.Shapes.{limited}
use Rattle.acas_table_text_laws.proofs.TextLaws.{entry_read, good_if}
use Rattle.acas_accept.specs.Accepted.{IsWritable}
use Rattle.acas_accept.specs.GivenTable.{entry_place, given_entry, given_table}
use Rattle.acas_accept.proofs.Given.{entry-at, layers-at, length-layer, length-layers}
use Rattle.acas_grid.proofs.StateNumbers.{state_present-state_number, state_vertex-state_number}
use Rattle.acas_grid.proofs.Vertices.{vertices-one_to_one}
use Rattle.acas_means.proofs.NumberedStates.{state_number-below}
use Rattle.acas_accept.proofs.Places.{state_entry_is}
use Rattle.acas_accept.proofs.Same.{AreSame}

-- an advice that may stand in a layer
advice_good : (m : ModelData) (t : Table) (n state : ℕ) → IsModel m → IsWritable m t → IsSound m t → n ≤ m.grid.horizon → state < states m.grid
    → advice_fault (shape_of m.grid) (entry_place m.grid n state) (t.advice n (state_present m.grid state) (state_vertex m.grid state)) ≡ None
advice_good m t zero state v writable sound seconds inside =
    let g = m.grid in
    let p : ℕ = state_present m.grid state in
    let byte : ℕ = t.advice 0 (state_present m.grid state) (state_vertex m.grid state) in
    good_if (cond (nat_lt (entry_place g 0 state) (states g)) (byte == 255) (nat_lt byte g.advisories)) _
    (ap (λ (b : Bool). cond b (byte == 255) (nat_lt byte g.advisories)) (lt-ltb (entry_place g 0 state) (states g) (omega arith))
    ∙ eq-eqb byte 255 (writable.no_advice p (state_vertex g state) (state_entry_is m 0 state seconds inside)))
advice_good m t (suc n) state v writable sound seconds inside =
    let g = m.grid in
    let p : ℕ = state_present m.grid state in
    let byte : ℕ = t.advice (suc n) (state_present m.grid state) (state_vertex m.grid state) in
    let at = state_entry_is m (suc n) state seconds inside in
    let entry : IsSoundEntry m t (suc n) (state_present m.grid state) (state_vertex m.grid state) = sound.entries (suc n) p (state_vertex g state) at in
    good_if (cond (nat_lt (entry_place g (suc n) state) (states g)) (byte == 255) (nat_lt byte g.advisories)) _
    (ap (λ (b : Bool). cond b (byte == 255) (nat_lt byte g.advisories)) (le-ltb (entry_place g (suc n) state) (states g) (omega arith))
    ∙ lt-ltb byte g.advisories ((is_chosen m p byte v at.present entry.0).inside))

-- the layers of a table
pub is_table : (m : ModelData) (digest : List ℕ) (t : Table) → IsModel m → length digest ≡ 32 → IsWritable m t → IsSound m t → IsTable digest (shape_of m.grid) (layers_of m.grid t)
is_table m digest t v long writable sound =
    let g = m.grid in
    record {
      digest_is = long;
      shape = limited g v.grid;
      count = length-layers g t;
      states = λ n seconds. ap length (layers-at g t n seconds) ∙ length-layer g t n;
      upper = λ n state seconds inside.
          subst (λ (e : Entry). FitsSigned w64 e.pair.upper) (sym (entry-at g t n state seconds inside)) (writable.upper n (state_present g state) (state_vertex g state) (state_entry_is m n state (omega arith) inside));
      lower = λ n state seconds inside.
          subst (λ (e : Entry). FitsSigned w64 e.pair.lower) (sym (entry-at g t n state seconds inside)) (writable.lower n (state_present g state) (state_vertex g state) (state_entry_is m n state (omega arith) inside));
      advice = λ n state seconds inside.
          ap (λ (e : Entry). advice_fault (shape_of g) (entry_place g n state) e.advice) (entry-at g t n state seconds inside) ∙ advice_good m t n state v writable sound (omega arith) inside;
    }

-- the entry of a state, at the vertex of its number
state_entry-at : (m : ModelData) (t : Table) (n p : ℕ) (x : Vertex) → IsEntry m n p x
    → state_entry m.grid t n (state_number m.grid p (vertex_number m.grid x)) ≡ record { pair = record { upper = t.upper n p x; lower = t.lower n p x }; advice = t.advice n p x }
state_entry-at m t n p x at =
    let made : ℕ → Vertex → Entry = λ q y. record { pair = record { upper = t.upper n q y; lower = t.lower n q y }; advice = t.advice n q y } in
    ap (λ (q : ℕ). made q (state_vertex m.grid (state_number m.grid p (vertex_number m.grid x)))) (state_present-state_number m.grid p (vertex_number m.grid x) ((vertices-one_to_one m.grid).below x at.vertex))
    ∙ ap (λ (y : Vertex). made p y) (state_vertex-state_number m.grid p x at.vertex)

entry_again : (m : ModelData) (f : Format) (digest : List ℕ) (t : Table) (n p : ℕ) (x : Vertex) → IsTable digest (shape_of m.grid) (layers_of m.grid t) → IsEntry m n p x
    → given_entry m.grid (table_text f digest m.grid t) n p x ≡ record { pair = record { upper = t.upper n p x; lower = t.lower n p x }; advice = t.advice n p x }
entry_again m f digest t n p x is at =
    let g = m.grid in
    let state : ℕ = state_number m.grid p (vertex_number m.grid x) in
    let inside = state_number-below g p x at.present at.vertex in
    entry_read f digest (shape_of g) (layers_of g t) n state is (omega (arith, at.seconds)) inside
    ∙ entry-at g t n state (omega (arith, at.seconds)) inside
    ∙ state_entry-at m t n p x at

-- the text is read as the table
pub read_again : (m : ModelData) (f : Format) (digest : List ℕ) (t : Table) → IsTable digest (shape_of m.grid) (layers_of m.grid t) → AreSame m t (given_table m.grid (table_text f digest m.grid t))
read_again m f digest t is = record {
  upper = λ n p x at. ap (λ (e : Entry). e.pair.upper) (entry_again m f digest t n p x is at);
  lower = λ n p x at. ap (λ (e : Entry). e.pair.lower) (entry_again m f digest t n p x is at);
  advice = λ n p x at. ap (λ (e : Entry). e.advice) (entry_again m f digest t n p x is at);
}
