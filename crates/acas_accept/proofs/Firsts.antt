-- A refusal that is found is the first one.
use Rattle.std.proofs.Common.{◌≡◌, ℕ, ◌%◌, ◌<◌, List, [], ◌∷◌, Option, None, Some, refl, ◌∙◌, ap}
use Rattle.std.proofs.lemmas.Nat.{div-mul-add, mod-mul-add}
use Rattle.std.specs.Option.{option_map}
use Rattle.acas_spec.specs.Model.{ModelData, entries, states}
use Rattle.acas_spec.specs.declared.fault.BoundFault.{BoundFault}
use Rattle.acas_table_text.specs.Faults.{entry_fault, first, first_below, header_fault, tail_fault}
use Rattle.acas_table_text.specs.Shape.{entry_count, shape_of}
use Rattle.acas_table_text.specs.declared.fault.TableFault.{TableFault}
use Rattle.acas_table.proofs.Found.{found_below}
use Rattle.acas_accept.specs.GivenTable.{entry_place}
use Rattle.acas_accept.specs.Refusals.{entry_refusal, first_refusal, soundness_refusal, given_fault}
use Rattle.acas_table_text.specs.declared.refusal.TableRefusal.{TableRefusal}
use Rattle.acas_table_text.specs.declared.refusal.TableRefusal.TheVariants.{Form, Entry}

-- ---- in the header

pub in_header : (m : ModelData) (digest bytes : List ℕ) (fault : TableFault) → header_fault digest (shape_of m.grid) bytes ≡ Some fault → first_refusal m digest bytes ≡ Some (Form fault)
unfolding first_refusal
in_header m digest bytes fault here =
    ap (λ (o : Option TableFault). first (option_map Form o ∷ first_below (entry_refusal m bytes) (entry_count (shape_of m.grid)) ∷ option_map Form (tail_fault (shape_of m.grid) bytes) ∷ [])) here

-- ---- in an entry

pub in_entry : (m : ModelData) (digest bytes : List ℕ) (i : ℕ) (refusal : TableRefusal) → header_fault digest (shape_of m.grid) bytes ≡ None → first_below (entry_refusal m bytes) i ≡ None → i < entries m.grid
    → entry_refusal m bytes i ≡ Some refusal → first_refusal m digest bytes ≡ Some refusal
unfolding first_refusal
in_entry m digest bytes i refusal header none within here =
    ap (λ (o : Option TableFault). first (option_map Form o ∷ first_below (entry_refusal m bytes) (entry_count (shape_of m.grid)) ∷ option_map Form (tail_fault (shape_of m.grid) bytes) ∷ [])) header
    ∙ ap (λ (o : Option TableRefusal). first (o ∷ option_map Form (tail_fault (shape_of m.grid) bytes) ∷ [])) (found_below (entry_refusal m bytes) (entries m.grid) i refusal within none here)

-- its form is at fault
pub form_refusal : (m : ModelData) (bytes : List ℕ) (i : ℕ) (fault : TableFault) → entry_fault (shape_of m.grid) bytes i ≡ Some fault → entry_refusal m bytes i ≡ Some (Form fault)
form_refusal m bytes i fault here = ap (λ (o : Option TableFault). first (option_map Form o ∷ soundness_refusal m bytes i ∷ [])) here

first_one : (o : Option TableRefusal) → first (o ∷ []) ≡ o
first_one None = refl
first_one (Some refusal) = refl

soundness_at : (m : ModelData) (bytes : List ℕ) (n state : ℕ) → state < states m.grid → soundness_refusal m bytes (entry_place m.grid n state) ≡ option_map (Entry n state) (given_fault m bytes n state)
unfolding soundness_refusal
soundness_at m bytes n state inside =
    let s : ℕ = states m.grid in
    let i : ℕ = entry_place m.grid n state in
    ap (λ (k : ℕ). option_map (Entry k (i % s)) (given_fault m bytes k (i % s))) (div-mul-add n s state inside)
    ∙ ap (λ (k : ℕ). option_map (Entry n k) (given_fault m bytes n k)) (mod-mul-add n s state inside)

-- its form is good, and it is sound or not
pub sound_refusal : (m : ModelData) (bytes : List ℕ) (n state : ℕ) (fault : Option BoundFault) → state < states m.grid → entry_fault (shape_of m.grid) bytes (entry_place m.grid n state) ≡ None
    → given_fault m bytes n state ≡ fault → entry_refusal m bytes (entry_place m.grid n state) ≡ option_map (Entry n state) fault
sound_refusal m bytes n state fault inside form here =
    ap (λ (o : Option TableFault). first (option_map Form o ∷ soundness_refusal m bytes (entry_place m.grid n state) ∷ [])) form
    ∙ first_one (soundness_refusal m bytes (entry_place m.grid n state))
    ∙ soundness_at m bytes n state inside
    ∙ ap (option_map (Entry n state)) here

-- ---- behind the entries

pub at_end : (m : ModelData) (digest bytes : List ℕ) (fault : Option TableFault) → header_fault digest (shape_of m.grid) bytes ≡ None → first_below (entry_refusal m bytes) (entries m.grid) ≡ None
    → tail_fault (shape_of m.grid) bytes ≡ fault → first_refusal m digest bytes ≡ option_map Form fault
unfolding first_refusal
at_end m digest bytes fault header none here =
    ap (λ (o : Option TableFault). first (option_map Form o ∷ first_below (entry_refusal m bytes) (entry_count (shape_of m.grid)) ∷ option_map Form (tail_fault (shape_of m.grid) bytes) ∷ [])) header
    ∙ ap (λ (o : Option TableRefusal). first (o ∷ option_map Form (tail_fault (shape_of m.grid) bytes) ∷ [])) none
    ∙ first_one (option_map Form (tail_fault (shape_of m.grid) bytes))
    ∙ ap (option_map Form) here
