-- Bytes have no refusal where they have no fault and each entry is sound.
use Rattle.std.proofs.Common.{◌≡◌, ℕ, ◌+◌, ◌*◌, ◌/◌, ◌%◌, ◌<◌, List, [], ◌∷◌, None, refl}
use Rattle.std.specs.Option.{option_map}
use Rattle.acas_spec.specs.Model.{ModelData, states}
use Rattle.acas_table_text.specs.Faults.{entry_fault, first_below, first_fault, header_fault, tail_fault}
use Rattle.acas_table_text.specs.Shape.{entry_count, shape_of}
use Rattle.acas_table_text.proofs.Nones.{all_none, each_none, first-cons, first_none, none-option_map, option_map-none}
use Rattle.acas_accept.specs.Refusals.{entry_refusal, first_refusal, soundness_refusal, given_fault}
use Rattle.acas_table_text.specs.declared.refusal.TableRefusal.TheVariants.{Form, Entry}

-- bytes without fault, each of whose entries passes the check of soundness
pub record HasNone (m : ModelData) (digest bytes : List ℕ) : Type 0 where
  pub form : first_fault digest (shape_of m.grid) bytes ≡ None
  pub sound : (i : ℕ) → i < (m.grid.horizon + 1) * states m.grid → given_fault m bytes (i / states m.grid) (i % states m.grid) ≡ None

entry_none : (m : ModelData) (bytes : List ℕ) (i : ℕ) → entry_fault (shape_of m.grid) bytes i ≡ None → given_fault m bytes (i / states m.grid) (i % states m.grid) ≡ None → entry_refusal m bytes i ≡ None
unfolding soundness_refusal
entry_none m bytes i form sound =
    first-cons (option_map Form (entry_fault (shape_of m.grid) bytes i)) (soundness_refusal m bytes i ∷ []) (none-option_map Form _ form)
    (first-cons (soundness_refusal m bytes i) [] (none-option_map (Entry (i / states m.grid) (i % states m.grid)) (given_fault m bytes (i / states m.grid) (i % states m.grid)) sound) refl)

pub none_refused : (m : ModelData) (digest bytes : List ℕ) → HasNone m digest bytes → first_refusal m digest bytes ≡ None
unfolding first_refusal first_fault
none_refused m digest bytes has =
    let s = shape_of m.grid in
    let a = first_none (header_fault digest s bytes) (first_below (entry_fault s bytes) (entry_count s) ∷ tail_fault s bytes ∷ []) has.form in
    let b = first_none (first_below (entry_fault s bytes) (entry_count s)) (tail_fault s bytes ∷ []) a.1 in
    let c = first_none (tail_fault s bytes) [] b.1 in
    let each : (i : ℕ) → i < entry_count s → entry_refusal m bytes i ≡ None =
    λ i within. entry_none m bytes i (each_none (entry_fault s bytes) (entry_count s) i b.0 within) (has.sound i within) in
    first-cons (option_map Form (header_fault digest s bytes)) (first_below (entry_refusal m bytes) (entry_count s) ∷ option_map Form (tail_fault s bytes) ∷ [])
    (none-option_map Form _ a.0)
    (first-cons (first_below (entry_refusal m bytes) (entry_count s)) (option_map Form (tail_fault s bytes) ∷ []) (all_none (entry_refusal m bytes) (entry_count s) each)
    (first-cons (option_map Form (tail_fault s bytes)) [] (none-option_map Form _ c.0) refl))

-- an entry without refusal
record IsEntryNone (m : ModelData) (bytes : List ℕ) (i : ℕ) : Type 0 where
  form : entry_fault (shape_of m.grid) bytes i ≡ None
  sound : given_fault m bytes (i / states m.grid) (i % states m.grid) ≡ None

entry_parts : (m : ModelData) (bytes : List ℕ) (i : ℕ) → entry_refusal m bytes i ≡ None → IsEntryNone m bytes i
unfolding soundness_refusal
entry_parts m bytes i none =
    let a = first_none (option_map Form (entry_fault (shape_of m.grid) bytes i)) (soundness_refusal m bytes i ∷ []) none in
    let b = first_none (soundness_refusal m bytes i) [] a.1 in
    record {
      form = option_map-none Form (entry_fault (shape_of m.grid) bytes i) a.0;
      sound = option_map-none (Entry (i / states m.grid) (i % states m.grid)) (given_fault m bytes (i / states m.grid) (i % states m.grid)) b.0;
    }

pub refused_none : (m : ModelData) (digest bytes : List ℕ) → first_refusal m digest bytes ≡ None → HasNone m digest bytes
unfolding first_refusal first_fault
refused_none m digest bytes none =
    let s = shape_of m.grid in
    let a = first_none (option_map Form (header_fault digest s bytes)) (first_below (entry_refusal m bytes) (entry_count s) ∷ option_map Form (tail_fault s bytes) ∷ []) none in
    let b = first_none (first_below (entry_refusal m bytes) (entry_count s)) (option_map Form (tail_fault s bytes) ∷ []) a.1 in
    let c = first_none (option_map Form (tail_fault s bytes)) [] b.1 in
    let each : (i : ℕ) → i < entry_count s → IsEntryNone m bytes i = λ i within. entry_parts m bytes i (each_none (entry_refusal m bytes) (entry_count s) i b.0 within) in
    record {
      form =
          first-cons (header_fault digest s bytes) (first_below (entry_fault s bytes) (entry_count s) ∷ tail_fault s bytes ∷ []) (option_map-none Form _ a.0)
          (first-cons (first_below (entry_fault s bytes) (entry_count s)) (tail_fault s bytes ∷ []) (all_none (entry_fault s bytes) (entry_count s) (λ i within. (each i within).form))
          (first-cons (tail_fault s bytes) [] (option_map-none Form _ c.0) refl));
      sound = λ i within. (each i within).sound;
    }
