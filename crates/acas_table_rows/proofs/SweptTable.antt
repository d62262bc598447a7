-- A table that is stored layer by layer as a sweep goes.
use Rattle.std.proofs.Common.{◌≡◌, ℕ, zero, suc, ◌+◌, List, [], ◌∷◌, Option, Ok, refl, sym, subst, ap, ◌∙◌, arith}
use Rattle.std.specs.Prelude.{Result, map, ⊤}
use Rattle.std.specs.List.{range_with_len}
use Rattle.acas_spec.specs.Model.{ModelData, states}
use Rattle.acas_units.specs.declared.pair.Entry.{Entry}
use Rattle.acas_units.specs.declared.pair.Pair.{Pair}
use Rattle.acas_outside.specs.Files.{Files, Grows, GrowsPart, Stores, StoresPart}
use Rattle.acas_outside.specs.Counts.{Rose}
use Rattle.acas_outside.specs.Frame.{OnlyWrites}
use Rattle.acas_outside.specs.declared.folder.Folder.{Ghosts as FolderMeanings}
use Rattle.acas_process.specs.Compiled.{compiled}
use Rattle.acas_sweep.specs.Handed.{AddsBelow, CutBelow, LayerData, compiled_layer, state_advice, state_pair}
use Rattle.acas_table_text.specs.Shape.{shape_of}
use Rattle.acas_table_text.specs.Text.{layer_of}
use Rattle.acas_table_writer.specs.Writer.{next_bytes, writer_state}
use Rattle.acas_table_writer.specs.declared.writer.TableWriter.{TableWriter}
use Rattle.acas_table_rows.specs.TableFile.{IsCompiling, compiled_entries, compiled_part, compiled_text, first_layers}
use Rattle.acas_table_rows.specs.TableRows.{AddsRow, CutsRow}
use Rattle.acas_table_rows.specs.declared.table_rows.TableRows.{TableRows}
use Rattle.acas_table_rows.proofs.StoredLayers.{part_of_next, stored_next, writing_next}

-- ---- the entries of a layer

layer_of-map : (f : ℕ → Pair) (g : ℕ → ℕ) (xs : List ℕ) → layer_of (map f xs) (map g xs) ≡ map (λ x. record { pair = f x; advice = g x }) xs
layer_of-map f g [] = refl
layer_of-map f g (x ∷ xs) = ap (λ (l : List Entry). record { pair = f x; advice = g x } ∷ l) (layer_of-map f g xs)

entries_of_compiled : (m : ModelData) (n : ℕ) → layer_of (compiled_layer m n).pairs (compiled_layer m n).advice ≡ compiled_entries m n
entries_of_compiled m n = layer_of-map (state_pair m (compiled m) n) (state_advice m (compiled m) n) (range_with_len 0 (states m.grid))

-- ---- the layers of a sweep, one after the other

module _ {F : Type 0} (f : FolderMeanings F) (layer : ℕ → LayerData) (first : TableRows F) where
  -- rows behind the first ones, of the same file
  record IsLater (A : Type 0) (rows : TableRows F) : Type 0 where
    same_writer : first.begun.ghost_name ≡ rows.begun.ghost_name
    same_folder : first.folder.ghost_name ≡ rows.folder.ghost_name
    frame : OnlyWrites f first.folder.now rows.folder.now A

  later-below : (n : ℕ) (last : TableRows F) → AddsBelow (AddsRow f) layer first n last → IsLater ⊥ last
  later-below zero last same =
      let first_is : IsLater ⊥ first =
      record { same_writer = refl; same_folder = refl; frame = record { serves = refl; misses = refl; taken = refl; faults = omega arith; fault = λ no. absurd no } } in
      subst (λ (rows : TableRows F). IsLater ⊥ rows) same first_is
  later-below (suc n) last (mid, below, added) =
      let so_far : IsLater ⊥ mid = later-below n mid below in
      record {
        same_writer = so_far.same_writer ∙ sym added.same_writer;
        same_folder = so_far.same_folder ∙ sym added.same_folder;
        frame = record {
          serves = added.frame.serves ∙ so_far.frame.serves;
          misses = added.frame.misses ∙ so_far.frame.misses;
          taken = added.frame.taken ∙ so_far.frame.taken;
          faults = omega (arith, added.frame.faults, so_far.frame.faults);
          fault = λ no. absurd no;
        };
      }

  -- what the folder ends as, where all layers were added
  pub frame_added : {A : Type 0} (n : ℕ) (last : TableRows F) (end : F) → AddsBelow (AddsRow f) layer first n last → (first.folder.ghost_name ≡ last.folder.ghost_name → end ≡ last.folder.now)
      → (A → ⊥) → OnlyWrites f first.folder.now end A
  frame_added {A} n last end below ends never =
      let later : IsLater ⊥ last = later-below n last below in
      let whole : OnlyWrites f first.folder.now last.folder.now A = record {
        serves = later.frame.serves;
        misses = later.frame.misses;
        taken = later.frame.taken;
        faults = later.frame.faults;
        fault = λ failed. absurd (never failed);
      } in
      subst (λ (x : F). OnlyWrites f first.folder.now x A) (sym (ends later.same_folder)) whole

  -- and where one was cut
  pub frame_cut : {A : Type 0} (count : ℕ) (last : TableRows F) (end : F) → CutBelow (AddsRow f) layer (CutsRow f) first count last → (first.folder.ghost_name ≡ last.folder.ghost_name → end ≡ last.folder.now)
      → Rose (f.faults first.folder.now) (f.faults last.folder.now) → OnlyWrites f first.folder.now end A
  frame_cut {A} count last end (n, within, mid, below, cut) ends rose =
      let later : IsLater ⊥ mid = later-below n mid below in
      let whole : OnlyWrites f first.folder.now last.folder.now A = record {
        serves = cut.frame.serves ∙ later.frame.serves;
        misses = cut.frame.misses ∙ later.frame.misses;
        taken = cut.frame.taken ∙ later.frame.taken;
        faults = omega (arith, cut.frame.faults, later.frame.faults);
        fault = λ failed. rose;
      } in
      subst (λ (x : F). OnlyWrites f first.folder.now x A) (sym (ends (later.same_folder ∙ sym cut.same_folder))) whole

module _ {F : Type 0} (f : FolderMeanings F) (digest : List ℕ) (m : ModelData) (first : TableRows F) where
  -- the rows have taken the first n layers
  record HasTaken (n : ℕ) (rows : TableRows F) : Type 0 where
    name : rows.name.now ≡ first.name.now
    writing : IsCompiling digest m n rows.begun.now.writer
    stored : (before : Option Files) → Stores before (f.holds first.folder.now) first.name.now (compiled_part digest m 0) → Stores before (f.holds rows.folder.now) first.name.now (compiled_part digest m n)

  taken-next : (n : ℕ) (mid last : TableRows F) → HasTaken n mid → AddsRow f mid (compiled_layer m n) last → HasTaken (n + 1) last
  taken-next n mid last so_far added =
      let layers : List (List Entry) = first_layers (compiled_entries m) n in
      let done : Result ⊤ ⊤ = Ok tt in
      record {
        name = added.name ∙ so_far.name;
        writing = writing_next digest (shape_of m.grid) (compiled_entries m) done n mid.begun.now.writer last.begun.now.writer _ so_far.writing.state (entries_of_compiled m n) added.state (added.written layers so_far.writing.written);
        stored = λ before start.
            stored_next digest (shape_of m.grid) (compiled_entries m) before _ _ first.name.now n (writer_state mid.begun.now.writer) _ so_far.writing.state (entries_of_compiled m n) (so_far.stored before start)
            (subst (λ (name : List ℕ). Grows (f.holds mid.folder.now) (f.holds last.folder.now) name (next_bytes (writer_state mid.begun.now.writer) layers (layer_of (compiled_layer m n).pairs (compiled_layer m n).advice))) so_far.name
            (added.grown layers so_far.writing.written));
      }

  taken-below : (n : ℕ) (last : TableRows F) → IsCompiling digest m 0 first.begun.now.writer → AddsBelow (AddsRow f) (compiled_layer m) first n last → HasTaken n last
  taken-below zero last writing same =
      let first_has : HasTaken 0 first = record { name = refl; writing = writing; stored = λ before start. start } in
      subst (λ (rows : TableRows F). HasTaken 0 rows) same first_has
  taken-below (suc n) last writing (mid, below, added) =
      let next : n + 1 ≡ suc n = omega arith in
      subst (λ (k : ℕ). HasTaken k last) next (taken-next n mid last (taken-below n mid writing below) added)

  -- what the file ends as, where all layers were added
  pub stored_added : (n : ℕ) (last : TableRows F) (end : F) → IsCompiling digest m 0 first.begun.now.writer → AddsBelow (AddsRow f) (compiled_layer m) first n last
      → (first.folder.ghost_name ≡ last.folder.ghost_name → end ≡ last.folder.now) → (before : Option Files) → Stores before (f.holds first.folder.now) first.name.now (compiled_part digest m 0)
      → Stores before (f.holds end) first.name.now (compiled_part digest m n)
  stored_added n last end writing below ends before start =
      subst (λ (x : F). Stores before (f.holds x) first.name.now (compiled_part digest m n)) (sym (ends (later-below f (compiled_layer m) first n last below).same_folder))
      ((taken-below n last writing below).stored before start)

  pub writing_added : (n : ℕ) (last : TableRows F) (end : TableWriter) → IsCompiling digest m 0 first.begun.now.writer → AddsBelow (AddsRow f) (compiled_layer m) first n last
      → (first.begun.ghost_name ≡ last.begun.ghost_name → end ≡ last.begun.now.writer) → IsCompiling digest m n end
  writing_added n last end writing below ends =
      subst (λ (w : TableWriter). IsCompiling digest m n w) (sym (ends (later-below f (compiled_layer m) first n last below).same_writer)) (taken-below n last writing below).writing

  -- and where one was cut
  pub stored_cut : (last : TableRows F) (end : F) → IsCompiling digest m 0 first.begun.now.writer → CutBelow (AddsRow f) (compiled_layer m) (CutsRow f) first (m.grid.horizon + 1) last
      → (first.folder.ghost_name ≡ last.folder.ghost_name → end ≡ last.folder.now) → (before : Option Files) → Stores before (f.holds first.folder.now) first.name.now (compiled_part digest m 0)
      → StoresPart before (f.holds end) first.name.now (compiled_text digest m)
  stored_cut last end writing (n, within, mid, below, cut) ends before start =
      let layers : List (List Entry) = first_layers (compiled_entries m) n in
      let later = later-below f (compiled_layer m) first n mid below in
      let so_far : HasTaken n mid = taken-below n mid writing below in
      subst (λ (x : F). StoresPart before (f.holds x) first.name.now (compiled_text digest m)) (sym (ends (later.same_folder ∙ sym cut.same_folder)))
      (part_of_next digest (shape_of m.grid) (compiled_entries m) before _ _ first.name.now n (writer_state mid.begun.now.writer) _ (omega (arith, within)) so_far.writing.state (entries_of_compiled m n) (so_far.stored before start)
      (subst (λ (name : List ℕ). GrowsPart (f.holds mid.folder.now) (f.holds last.folder.now) name (next_bytes (writer_state mid.begun.now.writer) layers (layer_of (compiled_layer m n).pairs (compiled_layer m n).advice))) so_far.name
      (cut.grown layers so_far.writing.written)))
