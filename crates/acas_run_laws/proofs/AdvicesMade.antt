-- Advices of a model that are made from a function of the seconds to go and the state.
use Rattle.std.proofs.Common.{◌≡◌, ℕ, zero, suc, ◌+◌, ◌-◌, ◌*◌, ◌/◌, ◌%◌, ◌<◌, ◌≤◌, List, length, map, get_or, None, refl, sym, ap, subst, ◌∙◌, arith}
use Rattle.std.specs.List.{range_with_len}
use Rattle.std.proofs.lemmas.List.FromFn.{get_or-map-range_with_len, length-map-range_with_len}
use Rattle.std.proofs.lemmas.Nat.{div-mul-add, mod-mul-add, mul-add-lt}
use Rattle.acas_units.specs.declared.pair.Entry.{Entry}
use Rattle.acas_spec.specs.Limits.{IsModel}
use Rattle.acas_spec.specs.Model.{ModelData, states}
use Rattle.acas_spec.specs.Table.{Table}
use Rattle.acas_spec.specs.declared.place.Vertex.{Vertex}
use Rattle.acas_grid.specs.Grid.{state_number, vertex_number}
use Rattle.acas_grid.specs.States.{state_present, state_vertex}
use Rattle.acas_grid.proofs.StateNumbers.{state_present-below, state_present-state_number, state_vertex-state_number}
use Rattle.acas_grid.proofs.Vertices.{vertices-one_to_one}
use Rattle.acas_base.specs.Advices.{AdvicesData, AreAdvices, AreAdvicesOf, advice_at}
use Rattle.acas_outside.specs.Bytes.{IsBytes}
use Rattle.acas_policies.specs.Bounds.{IsSound}
use Rattle.acas_process.specs.Cost.{IsEntry}
use Rattle.acas_process.proofs.ModelLaws.{is_chosen}
use Rattle.acas_means.proofs.NumberedStates.{IsVertex-state_vertex, state_number-below}
use Rattle.acas_accept.specs.Answers.{HasAdvices}
use Rattle.acas_accept.specs.GivenTable.{given_table}
use Rattle.acas_accept.specs.Refusals.{first_refusal}
use Rattle.acas_accept.proofs.Given.{given-place}
use Rattle.acas_accept.proofs.Tables.{given_is_accepted}
use Rattle.acas_table_file.specs.Worth.{AreTabled}
use Rattle.acas_run_laws.proofs.OneFiles.{place-parts}

abbrev pub advices_by : ModelData → (ℕ → ℕ → ℕ) → AdvicesData
advices_by m f = record {
  horizon = m.grid.horizon;
  states = states m.grid;
  advisories = m.grid.advisories;
  advice = map (λ place. f (place / states m.grid + 1) (place % states m.grid)) (range_with_len 0 (m.grid.horizon * states m.grid));
}

module _ (m : ModelData) (f : ℕ → ℕ → ℕ) where
  by_place : ℕ → ℕ
  by_place place = f (place / states m.grid + 1) (place % states m.grid)

  pub fits-by : AreAdvicesOf m (advices_by m f)
  fits-by = record { horizon = refl; states = refl; advisories = refl; count = length-map-range_with_len (λ place. f (place / states m.grid + 1) (place % states m.grid)) 0 (m.grid.horizon * states m.grid) }

  pub advice_at-by : (n state : ℕ) → 1 ≤ n → n ≤ m.grid.horizon → state < states m.grid → advice_at (advices_by m f) n state ≡ f n state
  advice_at-by n state some low small =
      let s : ℕ = states m.grid in
      let place : ℕ = (n - 1) * s + state in
      let inside : place < m.grid.horizon * s = omega (arith, mul-add-lt (n - 1) s state m.grid.horizon (omega arith) small) in
      let layer : place / s + 1 ≡ n = omega (arith, div-mul-add (n - 1) s state small) in
      let there : place % s ≡ state = mod-mul-add (n - 1) s state small in
      get_or-map-range_with_len (λ k. f (k / states m.grid + 1) (k % states m.grid)) 0 (m.grid.horizon * s) place place 0 inside (omega arith)
      ∙ ap (λ (k : ℕ). f k (place % s)) layer ∙ ap (λ (k : ℕ). f n k) there

  pub known-by : ((n state : ℕ) → 1 ≤ n → n ≤ m.grid.horizon → state < states m.grid → f n state < m.grid.advisories) → AreAdvices (advices_by m f)
  known-by each = record { count = fits-by.count; known = known }
    where
      known : (place : ℕ) → place < length (advices_by m f).advice → get_or (advices_by m f).advice place 0 < m.grid.advisories
      known place within =
          let s : ℕ = states m.grid in
          let inside : place < m.grid.horizon * s = subst (λ (n : ℕ). place < n) fits-by.count within in
          let p = place-parts m.grid.horizon s place inside in
          let is : get_or (advices_by m f).advice place 0 ≡ f (place / s + 1) (place % s) =
          get_or-map-range_with_len (λ k. f (k / states m.grid + 1) (k % states m.grid)) 0 (m.grid.horizon * s) place place 0 inside (omega arith) in
          subst (λ (n : ℕ). n < m.grid.advisories) (sym is) (each (place / s + 1) (place % s) (omega arith) (omega (arith, p.layer)) p.state)

-- ---- the advices of a table

-- what may be chosen is the number of an advisory
chosen-below : (m : ModelData) (t : Table) (n p : ℕ) (x : Vertex) → IsModel m → IsSound m t → 1 ≤ n → IsEntry m n p x → t.advice n p x < m.grid.advisories
chosen-below m t zero p x within sound some entry = absurd (omega (arith, some))
chosen-below m t (suc n) p x within sound some entry = (is_chosen m p (t.advice (suc n) p x) within entry.present (sound.entries (suc n) p x entry).0).inside

abbrev pub table_advice : ModelData → Table → ℕ → ℕ → ℕ
table_advice m t n state = t.advice n (state_present m.grid state) (state_vertex m.grid state)

entry-of : (m : ModelData) (n state : ℕ) → n ≤ m.grid.horizon → state < states m.grid → IsEntry m n (state_present m.grid state) (state_vertex m.grid state)
entry-of m n state low small = record { seconds = low; present = state_present-below m.grid state small; vertex = IsVertex-state_vertex m.grid state small }

-- a table has advices
pub tabled-by : (m : ModelData) (t : Table) → AreTabled m t (advices_by m (table_advice m t))
tabled-by m t = record {
  each = λ n p x some entry.
      let g = m.grid in
      let state : ℕ = state_number g p (vertex_number g x) in
      let present : state_present g state ≡ p = state_present-state_number g p (vertex_number g x) ((vertices-one_to_one g).below x entry.vertex) in
      let vertex : state_vertex g state ≡ x = state_vertex-state_number g p x entry.vertex in
      advice_at-by m (table_advice m t) n state some entry.seconds (state_number-below g p x entry.present entry.vertex)
      ∙ ap (λ (q : ℕ). t.advice n q (state_vertex g state)) present ∙ ap (λ (y : Vertex). t.advice n p y) vertex;
}

-- and so have bytes that are accepted
pub accepted-by : (m : ModelData) (bytes : List ℕ) → HasAdvices m bytes (advices_by m (table_advice m (given_table m.grid bytes)))
accepted-by m bytes = record {
  each = λ n state some low small.
      advice_at-by m (table_advice m (given_table m.grid bytes)) n state some low small
      ∙ ap (λ (e : Entry). e.advice) (given-place m.grid bytes n state);
}

pub known-accepted : (m : ModelData) (digest bytes : List ℕ) → IsModel m → IsBytes bytes → first_refusal m digest bytes ≡ None → AreAdvices (advices_by m (table_advice m (given_table m.grid bytes)))
known-accepted m digest bytes within whole none =
    known-by m (table_advice m (given_table m.grid bytes)) (λ n state some low small.
    chosen-below m (given_table m.grid bytes) n (state_present m.grid state) (state_vertex m.grid state) within (given_is_accepted m digest bytes within whole none).sound some (entry-of m n state low small))
