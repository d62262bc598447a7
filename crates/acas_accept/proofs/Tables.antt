-- Bytes without refusal are the text of an accepted table, and texts of accepted tables have no refusal.
use Rattle.std.proofs.Common.{◌≡◌, ℕ, ◌+◌, ◌*◌, ◌/◌, ◌%◌, ◌<◌, List, length, None, sym, ◌∙◌, ap, arith}
use Rattle.std.proofs.lemmas.Nat.{div-mul-add, mod-mul-add}
use Rattle.acas_spec.specs.Limits.{IsModel}
use Rattle.acas_spec.specs.Model.{ModelData, states}
use Rattle.acas_grid.specs.Grid.{state_number, vertex_number}
use Rattle.acas_spec.specs.declared.place.Vertex.{Vertex}
use Rattle.acas_outside.specs.Bytes.{IsBytes}
use Rattle.acas_spec.specs.Table.{Table}
use Rattle.acas_process.specs.Cost.{IsEntry}
use Rattle.acas_grid.specs.States.{state_present, state_vertex}
use Rattle.acas_bounds.specs.Sound.{bound_fault}
use Rattle.acas_bounds.proofs.Sound.{no_fault-is}
use Rattle.acas_table_text.specs.Format.{format_of}
use Rattle.acas_table_text.specs.Layers.{layers_of, table_text}
use Rattle.acas_table_text.specs.Shape.{shape_of}
use Rattle.acas_table_text.specs.Tables.{as_layered, layers_at}
use Rattle.acas_table_text.specs.Text.{text_of_layers}
use Rattle.acas_table_text.specs.declared.format.Format.TheVariants.{Layered}
use Rattle.acas_table_text.proofs.Backward.{good_is_text}
use Rattle.acas_table_text.proofs.Shapes.{limited}
use Rattle.acas_table_text_laws.proofs.TextLaws.{layers_again, text_is_good}
use Rattle.acas_table_text_laws.proofs.Twice.{each_entry_none}
use Rattle.acas_accept.specs.Accepted.{IsAcceptedTable}
use Rattle.acas_accept.specs.GivenTable.{entry_place, given_table}
use Rattle.acas_accept.specs.Refusals.{first_refusal, given_fault}
use Rattle.acas_table_text_laws.proofs.FieldFaults.{lower_fits, no_advice_at, upper_fits}
use Rattle.acas_accept.proofs.Given.{layers-given}
use Rattle.acas_accept.proofs.NoRefusal.{HasNone, none_refused, refused_none}
use Rattle.acas_grid.proofs.StateNumbers.{state_present-state_number, state_vertex-state_number}
use Rattle.acas_grid.proofs.Vertices.{vertices-one_to_one}
use Rattle.acas_means.proofs.NumberedStates.{state_number-below}
use Rattle.acas_accept.proofs.Places.{is_place, entry_place-below, state_entry_is}
use Rattle.acas_accept.proofs.Same.{sound_same}
use Rattle.acas_accept.proofs.Written.{is_table, read_again}

-- ---- from bytes to the table

-- the fault of a state of a layer, at its vertex
entry_fault_none : (m : ModelData) (digest bytes : List ℕ) (n p : ℕ) (x : Vertex) → HasNone m digest bytes → IsEntry m n p x → bound_fault m (given_table m.grid bytes) n p x ≡ None
entry_fault_none m digest bytes n p x has at =
    let g = m.grid in
    let t = given_table m.grid bytes in
    let state : ℕ = state_number m.grid p (vertex_number m.grid x) in
    let inside : state < states m.grid = state_number-below g p x at.present at.vertex in
    let layer : entry_place g n state / states g ≡ n = div-mul-add n (states g) state inside in
    let number : entry_place g n state % states g ≡ state = mod-mul-add n (states g) state inside in
    ap (λ (q : ℕ). bound_fault m t n q x) (sym (state_present-state_number g p (vertex_number g x) ((vertices-one_to_one g).below x at.vertex)))
    ∙ ap (λ (y : Vertex). bound_fault m t n (state_present g state) y) (sym (state_vertex-state_number g p x at.vertex))
    ∙ ap (λ (k : ℕ). bound_fault m t k (state_present g state) (state_vertex g state)) (sym layer)
    ∙ ap (λ (k : ℕ). bound_fault m t (entry_place g n state / states g) (state_present g k) (state_vertex g k)) (sym number)
    ∙ has.sound (entry_place g n state) (entry_place-below g n state at.seconds inside)

pub given_is_accepted : (m : ModelData) (digest bytes : List ℕ) → IsModel m → IsBytes bytes → first_refusal m digest bytes ≡ None → IsAcceptedTable m digest bytes (given_table m.grid bytes)
given_is_accepted m digest bytes v small none =
    let g = m.grid in
    let t = given_table m.grid bytes in
    let has = refused_none m digest bytes none in
    record {
      writable = record {
        upper = λ n p x at. upper_fits (shape_of g) bytes (entry_place g n (state_number g p (vertex_number g x))) small;
        lower = λ n p x at. lower_fits (shape_of g) bytes (entry_place g n (state_number g p (vertex_number g x))) small;
        no_advice = λ p x at.
            let inside = state_number-below g p x at.present at.vertex in
            no_advice_at (shape_of g) bytes (entry_place g 0 (state_number g p (vertex_number g x))) (omega arith)
            (each_entry_none digest (shape_of g) bytes (entry_place g 0 (state_number g p (vertex_number g x))) has.form (entry_place-below g 0 (state_number g p (vertex_number g x)) (omega arith) inside));
      };
      sound = record { entries = λ n p x at. (no_fault-is m t n p x v at.present).0 (entry_fault_none m digest bytes n p x has at) };
      format = format_of bytes;
      text =
          good_is_text digest (shape_of g) bytes (limited g v.grid) small has.form ∙ ap (text_of_layers (format_of bytes) digest (shape_of g)) (sym (layers-given g bytes));
    }

-- ---- from the table to its text

pub accepted_has_none : (m : ModelData) (digest bytes : List ℕ) (t : Table) → IsModel m → length digest ≡ 32 → IsAcceptedTable m digest bytes t → first_refusal m digest bytes ≡ None
accepted_has_none m digest bytes t v long is =
    let g = m.grid in
    let table = is_table m digest t v long is.writable is.sound in
    let u = given_table m.grid (table_text is.format digest m.grid t) in
    let same = read_again m is.format digest t table in
    let each : (i : ℕ) → i < (m.grid.horizon + 1) * states m.grid → given_fault m (table_text is.format digest m.grid t) (i / states m.grid) (i % states m.grid) ≡ None =
    λ i within.
    let at = is_place g i within in
    let entry = state_entry_is m (i / states g) (i % states g) at.seconds at.state in
    (no_fault-is m u (i / states g) (state_present g (i % states g)) (state_vertex g (i % states g)) v entry.present).1
    (sound_same m t u (i / states g) (state_present g (i % states g)) (state_vertex g (i % states g)) v same entry
    (is.sound.entries (i / states g) (state_present g (i % states g)) (state_vertex g (i % states g)) entry)) in
    ap (λ (l : List ℕ). first_refusal m digest l) is.text
    ∙ none_refused m digest (table_text is.format digest m.grid t) (record { form = text_is_good is.format digest (shape_of m.grid) (layers_of m.grid t) table; sound = each })

-- ---- the same table in version 2

-- the layers that the text of an accepted table has
layers_accepted : (m : ModelData) (digest bytes : List ℕ) (t : Table) → IsModel m → length digest ≡ 32 → IsAcceptedTable m digest bytes t → layers_at (shape_of m.grid) bytes ≡ layers_of m.grid t
layers_accepted m digest bytes t v long is =
    ap (layers_at (shape_of m.grid)) is.text ∙ layers_again is.format digest (shape_of m.grid) (layers_of m.grid t) (is_table m digest t v long is.writable is.sound)

pub migrated_text : (m : ModelData) (digest bytes : List ℕ) (t : Table) → IsModel m → length digest ≡ 32 → IsAcceptedTable m digest bytes t → as_layered digest (shape_of m.grid) bytes ≡ table_text Layered digest m.grid t
migrated_text m digest bytes t v long is = ap (text_of_layers Layered digest (shape_of m.grid)) (layers_accepted m digest bytes t v long is)

pub migrated_is_accepted : (m : ModelData) (digest bytes : List ℕ) (t : Table) → IsModel m → length digest ≡ 32 → IsAcceptedTable m digest bytes t → IsAcceptedTable m digest (as_layered digest (shape_of m.grid) bytes) t
migrated_is_accepted m digest bytes t v long is = record { writable = is.writable; sound = is.sound; format = Layered; text = migrated_text m digest bytes t v long is }
