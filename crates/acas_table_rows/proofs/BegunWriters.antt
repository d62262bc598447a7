-- Writers that have begun, and how many layers they take.
use Rattle.std.proofs.Common.{◌≡◌, ℕ, ◌+◌, ◌-◌, ◌<◌, Bool, true, false, IsTrue, List, [], ◌∷◌, ◌++◌, Option, Some, None, Ok, Err, refl, sym, ap, ◌∙◌, arith}
use Rattle.std.proofs.Math.Logic.{∥∥₁_map}
use Rattle.std.specs.Prelude.{IsSome, OnOk, Result, is_ok, if◌then◌else◌}
use Rattle.acas_units.specs.declared.pair.Entry.{Entry}
use Rattle.acas_outside.specs.Files.{Files, Given}
use Rattle.acas_table_writer.specs.Writer.{HasWritten, WriterState, writer_state}
use Rattle.acas_table_writer.specs.declared.writer.Phase.{Phase}
use Rattle.acas_table_writer.specs.declared.writer.Phase.TheVariants.{New, Started, Finished, Failed}
use Rattle.acas_table_writer.specs.declared.writer.TableWriter.{TableWriter}
use Rattle.acas_table_rows.specs.BegunWriter.{HasBegun, is_held}
use Rattle.acas_table_rows.specs.TableRows.{takes_layers}

pub held-told : (holds : Option Files) (name : List ℕ) → Given holds name (λ file. IsSome file) → IsTrue (is_held holds name)
held-told None name held = refl
held-told (Some files) name held = held

-- a call for one more layer
pub begun-next : {X E : Type 0} (r : Result X E) (old new : TableWriter) (layer : List Entry) → HasBegun old → (writer_state old).phase ≡ Started
    → writer_state new ≡ (if is_ok r then record (writer_state old) { given = (writer_state old).given + 1 } else record (writer_state old) { phase = Failed })
    → ((layers : List (List Entry)) → HasWritten old layers → OnOk r (HasWritten new (layers ++ layer ∷ []))) → HasBegun new
begun-next (Ok x) old new layer begun started state written = λ now. ∥∥₁_map (begun started) (λ some. (some.0 ++ layer ∷ [], written some.0 some.1))
begun-next (Err e) old new layer begun started state written =
    λ now. let failed : Failed ≡ Started = sym (ap (λ (w : WriterState). w.phase) state) ∙ now in absurd (cc failed)

-- ---- how many layers are taken

pub takes_layers-all : (p : Phase) (served held : Bool) (count : ℕ) → p ≡ Started → IsTrue served → IsTrue held → takes_layers p served held count ≡ count
takes_layers-all p served held count started is_served is_held = rw (started, is_served, is_held) refl

record Takes (p : Phase) (s h : Bool) (count : ℕ) : Type 0 where
  started : p ≡ Started
  served : IsTrue s
  held : IsTrue h
  some : 0 < count

takes_layers-some : (p : Phase) (served held : Bool) (count : ℕ) → 0 < takes_layers p served held count → Takes p served held count
takes_layers-some Started true true count some = record { started = refl; served = refl; held = refl; some = some }
takes_layers-some Started true false count some = absurd (omega (arith, some))
takes_layers-some Started false held count some = absurd (omega (arith, some))
takes_layers-some New served held count some = absurd (omega (arith, some))
takes_layers-some Finished served held count some = absurd (omega (arith, some))
takes_layers-some Failed served held count some = absurd (omega (arith, some))

pub is_started : (p : Phase) (served held : Bool) (count : ℕ) → 0 < takes_layers p served held count → p ≡ Started
is_started p served held count some = (takes_layers-some p served held count some).started

-- a layer fewer
pub takes_layers-next : (w v : WriterState) (served served' held held' : Bool) → v ≡ record w { given = w.given + 1 } → served' ≡ served → IsTrue held'
    → 0 < takes_layers w.phase served held (w.shape.horizon + 1 - w.given)
    → takes_layers w.phase served held (w.shape.horizon + 1 - w.given) ≡ takes_layers v.phase served' held' (v.shape.horizon + 1 - v.given) + 1
takes_layers-next w v served served' held held' next same is some =
    let takes : Takes w.phase served held (w.shape.horizon + 1 - w.given) = takes_layers-some w.phase served held (w.shape.horizon + 1 - w.given) some in
    let count : w.shape.horizon + 1 - w.given ≡ v.shape.horizon + 1 - v.given + 1 =
    omega (arith, takes.some, ap (λ (z : WriterState). z.shape.horizon) next, ap (λ (z : WriterState). z.given) next) in
    takes_layers-all w.phase served held _ takes.started takes.served takes.held
    ∙ count
    ∙ ap (λ (k : ℕ). k + 1) (sym (takes_layers-all v.phase served' held' _ (ap (λ (z : WriterState). z.phase) next ∙ takes.started) (same ∙ takes.served) is))
