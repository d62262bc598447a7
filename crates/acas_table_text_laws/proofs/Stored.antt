-- A header that is stored, and then grows to the text of a table.
use Rattle.std.proofs.Common.{◌≡◌, ℕ, List, [], ◌∷◌, ◌++◌, Option, sym, ◌∙◌, ap, subst, arith, append_assoc, length-append}
use Rattle.std.proofs.lemmas.List.{append-nil, take-append-le}
use Rattle.acas_units.specs.declared.pair.Entry.{Entry}
use Rattle.acas_outside.specs.Files.{Files, Grows, GrowsPart, Stores, StoresPart}
use Rattle.acas_outside.proofs.Grown.{stores_then, stores_part_behind}
use Rattle.acas_table_text.specs.Growth.{base, body, ending, front, layer_bytes, text_behind}
use Rattle.acas_table_text.specs.declared.format.Format.{Format}
use Rattle.acas_table_text.proofs.Versions.{body-more, body-none}

stored_as : (old new : Option Files) (name a b : List ℕ) → a ≡ b → Stores old new name a → Stores old new name b
stored_as old new name a b same stored = subst (λ (l : List ℕ). Stores old new name l) same stored

part_as : (old new : Option Files) (name a b : List ℕ) → a ≡ b → StoresPart old new name a → StoresPart old new name b
part_as old new name a b same stored = subst (λ (l : List ℕ). StoresPart old new name l) same stored

-- a part of a text is one of a longer text
part_of_more : (old new : Option Files) (name a b : List ℕ) → StoresPart old new name a → StoresPart old new name (a ++ b)
part_of_more old new name a b part = record {
  count = part.count;
  proper = omega (arith, length-append a b, part.proper);
  stored = stored_as old new name _ _ (sym (take-append-le part.count a b (omega (arith, part.proper)))) part.stored;
}

pub front-none : (f : Format) (head : List ℕ) → front f head [] ≡ head
front-none f head = ap (λ (l : List ℕ). head ++ l) (body-none f head) ∙ append-nil head

pub front-more : (f : Format) (head : List ℕ) (layers : List (List Entry)) (layer : List Entry)
    → front f head (layers ++ layer ∷ []) ≡ front f head layers ++ layer_bytes f (base f head layers) layer
front-more f head layers layer =
    ap (λ (l : List ℕ). head ++ l) (body-more f head layers layer)
    ∙ sym (append_assoc head (body f head layers) (layer_bytes f (base f head layers) layer))

-- what a text has behind its first layers and one more
rest_of : Format → List ℕ → List (List Entry) → List Entry → List (List Entry) → List ℕ
rest_of f head layers layer [] = ending f (base f head (layers ++ layer ∷ []))
rest_of f head layers layer (next ∷ more) =
    layer_bytes f (base f head (layers ++ layer ∷ [])) next ++ rest_of f head (layers ++ layer ∷ []) next more

text-split : (f : Format) (head : List ℕ) (layers : List (List Entry)) (layer : List Entry) (more : List (List Entry))
    → text_behind f head (layers ++ layer ∷ more) ≡ front f head layers ++ layer_bytes f (base f head layers) layer ++ rest_of f head layers layer more
unfolding rest_of
text-split f head layers layer [] =
    ap (λ (l : List ℕ). l ++ ending f (base f head (layers ++ layer ∷ []))) (front-more f head layers layer)
text-split f head layers layer (next ∷ more) =
    ap (λ (ls : List (List Entry)). text_behind f head ls) (sym (append_assoc layers (layer ∷ []) (next ∷ more)))
    ∙ text-split f head (layers ++ layer ∷ []) next more
    ∙ append_assoc (front f head (layers ++ layer ∷ [])) (layer_bytes f (base f head (layers ++ layer ∷ [])) next) (rest_of f head (layers ++ layer ∷ []) next more)
    ∙ ap (λ (l : List ℕ). l ++ rest_of f head layers layer (next ∷ more)) (front-more f head layers layer)

pub stored_layer : (before old new : Option Files) (name : List ℕ) (f : Format) (head : List ℕ) (layers : List (List Entry)) (layer : List Entry)
    → Stores before old name (front f head layers) → Grows old new name (layer_bytes f (base f head layers) layer) → Stores before new name (front f head (layers ++ layer ∷ []))
stored_layer before old new name f head layers layer stored grown =
    stored_as before new name _ _ (sym (front-more f head layers layer)) (stores_then before old new name _ _ stored grown)

pub stored_end : (before old new : Option Files) (name : List ℕ) (f : Format) (head : List ℕ) (layers : List (List Entry))
    → Stores before old name (front f head layers) → Grows old new name (ending f (base f head layers)) → Stores before new name (text_behind f head layers)
stored_end before old new name f head layers stored grown = stores_then before old new name _ _ stored grown

pub part_of_header : (before new : Option Files) (name : List ℕ) (f : Format) (head : List ℕ) (layers : List (List Entry)) → StoresPart before new name head → StoresPart before new name (text_behind f head layers)
part_of_header before new name f head layers part =
    part_of_more before new name _ (ending f (base f head layers)) (part_of_more before new name head (body f head layers) part)

pub part_of_layer : (before old new : Option Files) (name : List ℕ) (f : Format) (head : List ℕ) (layers : List (List Entry)) (layer : List Entry) (more : List (List Entry))
    → Stores before old name (front f head layers) → GrowsPart old new name (layer_bytes f (base f head layers) layer) → StoresPart before new name (text_behind f head (layers ++ layer ∷ more))
part_of_layer before old new name f head layers layer more stored part =
    part_as before new name _ _ (sym (text-split f head layers layer more))
    (stores_part_behind before old new name (front f head layers) (layer_bytes f (base f head layers) layer) (rest_of f head layers layer more) stored part)

pub part_of_end : (before old new : Option Files) (name : List ℕ) (f : Format) (head : List ℕ) (layers : List (List Entry))
    → Stores before old name (front f head layers) → GrowsPart old new name (ending f (base f head layers)) → StoresPart before new name (text_behind f head layers)
part_of_end before old new name f head layers stored part =
    part_as before new name _ _ (append-nil (text_behind f head layers))
    (stores_part_behind before old new name (front f head layers) (ending f (base f head layers)) [] stored part)
