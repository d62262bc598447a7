-- A table that is stored layer by layer.
use Rattle.std.proofs.Common.{◌≡◌, ℕ, suc, ◌+◌, ◌≤◌, List, [], ◌∷◌, ◌++◌, ◌⊎◌, ⊎_elim, inl, inr, length, drop, Option, Ok, Err, sym, subst, ap, ◌∙◌, arith}
use Rattle.std.specs.Prelude.{OnOk, Result, is_ok, if◌then◌else◌}
use Rattle.std.proofs.Math.Seq.{drop-cons}
use Rattle.std.proofs.lemmas.List.{take-append-drop}
use Rattle.std.proofs.lemmas.List.FromFn.{get_or-map-range_with_len, length-map-range_with_len, map-range_with_len_more, take-map-range_with_len}
use Rattle.acas_units.specs.declared.pair.Entry.{Entry}
use Rattle.acas_outside.specs.Files.{Files, Grows, GrowsPart, Stores, StoresPart}
use Rattle.acas_outside.specs.Frame.{OnlyWrites}
use Rattle.acas_outside.specs.declared.folder.Folder.{Ghosts as FolderMeanings}
use Rattle.acas_table_text.specs.Growth.{base, front, layer_bytes, text_behind}
use Rattle.acas_table_text.specs.Text.{header}
use Rattle.acas_table_text.specs.declared.format.Format.TheVariants.{Layered}
use Rattle.acas_table_text.specs.declared.shape.TableShape.{TableShape}
use Rattle.acas_table_writer.specs.Writer.{HasWritten, WriterState, last_bytes, new_writer, next_bytes, writer_state}
use Rattle.acas_table_writer.specs.declared.writer.Phase.TheVariants.{Failed, Started}
use Rattle.acas_table_writer.specs.declared.writer.TableWriter.{TableWriter}
use Rattle.acas_table_text_laws.proofs.Chains.{text-chain}
use Rattle.acas_table_text_laws.proofs.Stored.{front-none, part_of_end, part_of_header, part_of_layer, stored_end, stored_layer}
use Rattle.acas_table_rows.specs.TableFile.{IsWriting, first_layers, first_part, text_of_all}

-- the layers behind the first n and one more
abbrev later_layers : TableShape → (ℕ → List Entry) → ℕ → List (List Entry)
later_layers s layer n = drop (suc n) (first_layers layer (s.horizon + 1))

pub first_layers-more : (layer : ℕ → List Entry) (n : ℕ) → first_layers layer (n + 1) ≡ first_layers layer n ++ layer n ∷ []
first_layers-more layer n = map-range_with_len_more layer 0 n n (omega arith)

layers-split : (s : TableShape) (layer : ℕ → List Entry) (n : ℕ) → n ≤ s.horizon → first_layers layer (s.horizon + 1) ≡ first_layers layer n ++ layer n ∷ later_layers s layer n
layers-split s layer n within =
    let all : List (List Entry) = first_layers layer (s.horizon + 1) in
    let count : length all ≡ s.horizon + 1 = length-map-range_with_len layer 0 (s.horizon + 1) in
    sym (take-append-drop n all)
    ∙ ap (λ (l : List (List Entry)). l ++ drop n all) (take-map-range_with_len layer 0 (s.horizon + 1) n (omega (arith, within)))
    ∙ ap (λ (l : List (List Entry)). first_layers layer n ++ l) (drop-cons all n [] (omega (arith, within, count)))
    ∙ ap (λ (l : List Entry). first_layers layer n ++ l ∷ drop (suc n) all) (get_or-map-range_with_len layer 0 (s.horizon + 1) n n [] (omega (arith, within)) (omega arith))

-- layers are stored, for the model whose text has a digest
module _ (digest : List ℕ) (s : TableShape) (layer : ℕ → List Entry) where
  -- a writer that was given the first n layers
  abbrev pub writing : ℕ → WriterState
  writing n = record (new_writer Layered digest s) { given = n; phase = Started }

  -- what is stored behind the last layer is the text
  as_text : (P : List ℕ → Type 0) → P (text_behind Layered (header Layered digest s) (first_layers layer (s.horizon + 1))) → P (text_of_all digest s layer)
  as_text P stored = subst P (text-chain Layered (header Layered digest s) (first_layers layer (s.horizon + 1))) stored

  -- what a writer appends for the next layer
  next_is : (n : ℕ) (w : WriterState) (entries : List Entry) → w ≡ writing n → entries ≡ layer n
      → next_bytes w (first_layers layer n) entries ≡ layer_bytes Layered (base Layered (header Layered digest s) (first_layers layer n)) (layer n)
  next_is n w entries state is =
      ap (λ (v : WriterState). next_bytes v (first_layers layer n) entries) state
      ∙ ap (λ (l : List Entry). layer_bytes Layered (base Layered (header Layered digest s) (first_layers layer n)) l) is

  pub stored_next : (before old new : Option Files) (name : List ℕ) (n : ℕ) (w : WriterState) (entries : List Entry) → w ≡ writing n → entries ≡ layer n
      → Stores before old name (first_part digest s layer n) → Grows old new name (next_bytes w (first_layers layer n) entries) → Stores before new name (first_part digest s layer (n + 1))
  stored_next before old new name n w entries state is stored grown =
      subst (λ (ls : List (List Entry)). Stores before new name (front Layered (header Layered digest s) ls)) (sym (first_layers-more layer n))
      (stored_layer before old new name Layered (header Layered digest s) (first_layers layer n) (layer n) stored (subst (λ (l : List ℕ). Grows old new name l) (next_is n w entries state is) grown))

  pub part_of_next : (before old new : Option Files) (name : List ℕ) (n : ℕ) (w : WriterState) (entries : List Entry) → n ≤ s.horizon → w ≡ writing n → entries ≡ layer n
      → Stores before old name (first_part digest s layer n) → GrowsPart old new name (next_bytes w (first_layers layer n) entries) → StoresPart before new name (text_of_all digest s layer)
  part_of_next before old new name n w entries within state is stored part =
      as_text (λ (text : List ℕ). StoresPart before new name text)
      (subst (λ (ls : List (List Entry)). StoresPart before new name (text_behind Layered (header Layered digest s) ls)) (sym (layers-split s layer n within))
      (part_of_layer before old new name Layered (header Layered digest s) (first_layers layer n) (layer n) (later_layers s layer n) stored
      (subst (λ (l : List ℕ). GrowsPart old new name l) (next_is n w entries state is) part)))

  -- the writer was given one layer more
  pub writing_next : {X E : Type 0} (r : Result X E) (n : ℕ) (old new : TableWriter) (entries : List Entry) → writer_state old ≡ writing n → entries ≡ layer n
      → writer_state new ≡ (if is_ok r then record (writer_state old) { given = (writer_state old).given + 1 } else record (writer_state old) { phase = Failed })
      → OnOk r (HasWritten new (first_layers layer n ++ entries ∷ [])) → OnOk r (IsWriting digest s layer (n + 1) new)
  writing_next (Ok x) n old new entries state is next written = record {
    state = next ∙ ap (λ (v : WriterState). record v { given = v.given + 1 }) state;
    written =
        subst (λ (ls : List (List Entry)). HasWritten new ls) (sym (first_layers-more layer n))
        (subst (λ (l : List Entry). HasWritten new (first_layers layer n ++ l ∷ [])) is written);
  }
  writing_next (Err e) n old new entries state is next written = tt

  -- the writer has begun
  pub started_is : (old new : WriterState) → new ≡ record old { phase = Started } → old ≡ new_writer Layered digest s → new ≡ writing 0
  started_is old new begun state = begun ∙ ap (λ (w : WriterState). record w { phase = Started }) state

  -- the header alone
  pub stored_first : (old new : Option Files) (name : List ℕ) (w : WriterState) → w ≡ new_writer Layered digest s → Stores old new name w.head → Stores old new name (first_part digest s layer 0)
  stored_first old new name w state stored =
      subst (λ (l : List ℕ). Stores old new name l) (ap (λ (v : WriterState). v.head) state ∙ sym (front-none Layered (header Layered digest s))) stored

  pub part_of_first : (old new : Option Files) (name : List ℕ) (w : WriterState) → w ≡ new_writer Layered digest s → StoresPart old new name w.head → StoresPart old new name (text_of_all digest s layer)
  part_of_first old new name w state part =
      as_text (λ (text : List ℕ). StoresPart old new name text)
      (part_of_header old new name Layered (header Layered digest s) (first_layers layer (s.horizon + 1)) (subst (λ (v : WriterState). StoresPart old new name v.head) state part))

  -- the end
  pub stored_all : (before old new : Option Files) (name : List ℕ) (w : WriterState) (n : ℕ) → w ≡ writing n → n ≡ s.horizon + 1
      → Stores before old name (first_part digest s layer n) → Grows old new name (last_bytes w (first_layers layer n)) → Stores before new name (text_of_all digest s layer)
  stored_all before old new name w n state is stored grown =
      as_text (λ (text : List ℕ). Stores before new name text)
      (stored_end before old new name Layered (header Layered digest s) (first_layers layer (s.horizon + 1))
      (subst (λ (k : ℕ). Stores before old name (first_part digest s layer k)) is stored)
      (subst (λ (k : ℕ). Grows old new name (last_bytes (writing k) (first_layers layer k))) is (subst (λ (v : WriterState). Grows old new name (last_bytes v (first_layers layer n))) state grown)))

  pub part_of_last : (before old new : Option Files) (name : List ℕ) (w : WriterState) (n : ℕ) → w ≡ writing n → n ≡ s.horizon + 1
      → Stores before old name (first_part digest s layer n) → GrowsPart old new name (last_bytes w (first_layers layer n)) → StoresPart before new name (text_of_all digest s layer)
  part_of_last before old new name w n state is stored part =
      as_text (λ (text : List ℕ). StoresPart before new name text)
      (part_of_end before old new name Layered (header Layered digest s) (first_layers layer (s.horizon + 1))
      (subst (λ (k : ℕ). Stores before old name (first_part digest s layer k)) is stored)
      (subst (λ (k : ℕ). GrowsPart old new name (last_bytes (writing k) (first_layers layer k))) is (subst (λ (v : WriterState). GrowsPart old new name (last_bytes v (first_layers layer n))) state part)))

  -- the first call of a writer that failed
  pub start_is : (old new : Option Files) (name : List ℕ) (w : WriterState) → w ≡ new_writer Layered digest s → (new ≡ old) ⊎ StoresPart old new name w.head
      → (new ≡ old) ⊎ StoresPart old new name (text_of_all digest s layer)
  start_is old new name w state either =
      ⊎_elim (λ (same : new ≡ old). inl same) (λ (part : StoresPart old new name w.head). inr (part_of_first old new name w state part)) either

-- two calls that wrote
pub writes_then : {F : Type 0} (d : FolderMeanings F) (a b c : F) (A B : Type 0) → OnlyWrites d a b A → OnlyWrites d b c B → OnlyWrites d a c B
writes_then d a b c A B v w = record { serves = w.serves ∙ v.serves; misses = w.misses ∙ v.misses; taken = w.taken ∙ v.taken; faults = omega (arith, v.faults, w.faults); fault = λ f. omega (arith, v.faults, w.fault f) }
