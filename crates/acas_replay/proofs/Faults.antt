-- The faults that the rules of an encounter give.
use Rattle.std.proofs.Common.{◌≡◌, ◌≢◌, ℕ, List, [], length, codes, ℤ, pos, Result, Ok, Err, IfErr, refl, subst}
use Rattle.toml.specs.Data.{Members}
use Rattle.acas_units.specs.declared.limits.TheConstants.{LEAST_CLOSING, GREATEST_CLOSING, LEAST_ALTITUDE, GREATEST_ALTITUDE, LEAST_RATE, GREATEST_RATE, LEAST_SECONDS, GREATEST_SECONDS}
use Rattle.acas_spec.specs.Model.{ModelData}
use Rattle.acas_doc.specs.declared.fault.DocFault.{DocFault}
use Rattle.acas_doc.specs.Document.{document_of}
use Rattle.acas_doc.specs.Keys.{list_at, whole_at}
use Rattle.acas_doc.specs.Known.{only_known}
use Rattle.acas_doc.specs.declared.input_fault.InputFault.{InputFault}
use Rattle.acas_doc.specs.declared.input_fault.InputFault.TheVariants.{NotToml, Doc, UnknownName, Window, Rate, Memory}
use Rattle.acas_doc.specs.InputAnswers.{Gives}
use Rattle.acas_doc.specs.Input.{in_doc, version_of}
use Rattle.acas_model.specs.Named.{advisory_at}
use Rattle.acas_model.proofs.InputFaults.{AnyFaultIs, advisory_faults, after_faults, document_faults, in_doc_faults, next_faults, version_faults}
use Rattle.acas_replay.specs.declared.limits.TheConstants.{LEAST_START_RANGE, GREATEST_START_RANGE}
use Rattle.acas_replay.specs.Encounter.{EncounterData}
use Rattle.acas_replay.specs.Start.{number_at, start_of}
use Rattle.acas_replay.specs.Accelerations.{accelerations_at}
use Rattle.acas_replay.specs.Whole.{IsOfEncounter, encounter_in, encounter_of}

-- the fault, if there is one, is one that an encounter can have
abbrev pub AnyFaultIsOfEncounter : {A : Type 0} → Result A InputFault → Type 0
AnyFaultIsOfEncounter r = AnyFaultIs IsOfEncounter r

key_faults : {A : Type 0} (r : Result A DocFault) → AnyFaultIsOfEncounter (in_doc r)
key_faults r = in_doc_faults IsOfEncounter (λ f. tt) r

number_faults : (doc : Members) (key : List ℕ) (least greatest : ℤ) → AnyFaultIsOfEncounter (number_at doc key least greatest)
unfolding number_at
number_faults doc key least greatest = key_faults (whole_at doc [] key least greatest)

start_faults : (m : ModelData) (doc : Members) → AnyFaultIsOfEncounter (start_of m doc)
unfolding start_of
start_faults m doc =
    next_faults IsOfEncounter (advisory_at m doc [] 0) _ (advisory_faults IsOfEncounter (λ f. tt) m doc [] 0 refl) (λ advisory.
    next_faults IsOfEncounter (number_at doc (codes "range") LEAST_START_RANGE GREATEST_START_RANGE) _ (number_faults doc _ _ _) (λ range.
    next_faults IsOfEncounter (number_at doc (codes "closing") (pos LEAST_CLOSING) (pos GREATEST_CLOSING)) _ (number_faults doc _ _ _) (λ closing.
    next_faults IsOfEncounter (number_at doc (codes "altitude") LEAST_ALTITUDE GREATEST_ALTITUDE) _ (number_faults doc _ _ _) (λ feet.
    next_faults IsOfEncounter (number_at doc (codes "own") LEAST_RATE GREATEST_RATE) _ (number_faults doc _ _ _) (λ own.
    next_faults IsOfEncounter (number_at doc (codes "intruder") LEAST_RATE GREATEST_RATE) _ (number_faults doc _ _ _) (λ intruder. tt))))))

accelerations_faults : (doc : Members) (key : List ℕ) (least greatest : ℕ) → AnyFaultIsOfEncounter (accelerations_at doc key least greatest)
unfolding accelerations_at
accelerations_faults doc key least greatest =
    next_faults IsOfEncounter (in_doc (list_at doc [] key least greatest)) _ (key_faults _) (λ items. key_faults _)

in_faults : (m : ModelData) (doc : Members) → AnyFaultIsOfEncounter (encounter_in m doc)
unfolding encounter_in
in_faults m doc =
    after_faults IsOfEncounter (in_doc (only_known [] (codes "version advisory range closing altitude own intruder own_accel intruder_accel") doc)) _ (key_faults _)
    (after_faults IsOfEncounter (version_of doc) _ (version_faults IsOfEncounter (λ f. tt) doc) (
    next_faults IsOfEncounter (start_of m doc) _ (start_faults m doc) (λ start.
    next_faults IsOfEncounter (accelerations_at doc (codes "own_accel") LEAST_SECONDS GREATEST_SECONDS) _ (accelerations_faults doc _ _ _) (λ own.
    next_faults IsOfEncounter (accelerations_at doc (codes "intruder_accel") (length own) (length own)) _ (accelerations_faults doc _ _ _) (λ intruder. tt)))))

encounter_faults : (m : ModelData) (bytes : List ℕ) → AnyFaultIsOfEncounter (encounter_of m bytes)
unfolding encounter_of
encounter_faults m bytes = next_faults IsOfEncounter (document_of NotToml bytes) (encounter_in m) (document_faults IsOfEncounter tt bytes) (in_faults m)

-- a fault that the rules give is one that an encounter can have, and want of memory is one too
pub fault_is_of_encounter : (m : ModelData) (bytes : List ℕ) (f : InputFault) → (f ≢ Memory → encounter_of m bytes ≡ Err f) → IsOfEncounter f
fault_is_of_encounter m bytes NotToml gives = tt
fault_is_of_encounter m bytes (Doc f) gives = tt
fault_is_of_encounter m bytes (UnknownName place) gives = subst AnyFaultIsOfEncounter (gives (λ e. cc)) (encounter_faults m bytes)
fault_is_of_encounter m bytes (Window place) gives = subst AnyFaultIsOfEncounter (gives (λ e. cc)) (encounter_faults m bytes)
fault_is_of_encounter m bytes (Rate place) gives = subst AnyFaultIsOfEncounter (gives (λ e. cc)) (encounter_faults m bytes)
fault_is_of_encounter m bytes Memory gives = tt

-- the same of what a reader answers
pub given_fault : {X : Type 0} (view : X → EncounterData) (r : Result X InputFault) (m : ModelData) (bytes : List ℕ) → Gives view r (encounter_of m bytes) → IfErr r IsOfEncounter
given_fault view (Ok x) m bytes gives = tt
given_fault view (Err f) m bytes gives = fault_is_of_encounter m bytes f gives
