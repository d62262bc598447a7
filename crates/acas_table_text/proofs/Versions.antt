-- Both formats of a table, layer by layer.
use Rattle.std.proofs.Common.{◌≡◌, ℕ, List, [], ◌∷◌, ◌++◌, refl, sym, ◌∙◌, ap, append_assoc}
use Rattle.std.proofs.lemmas.List.{append-nil}
use Rattle.std.proofs.lemmas.Grind.{flat_map-append}
use Rattle.std.specs.List.{flat_map}
use Rattle.sha2.specs.Sha256.{sha256}
use Rattle.acas_units.specs.declared.pair.Entry.{Entry}
use Rattle.acas_table_text.specs.Text.{layer_text, chain}
use Rattle.acas_table_text.specs.Growth.{last_digest, body, base, layer_bytes, next_base}
use Rattle.acas_table_text.specs.declared.format.Format.{Format}
use Rattle.acas_table_text.specs.declared.format.Format.TheVariants.{Layered, Whole}

last_digest-more : (before : List ℕ) (layers : List (List Entry)) (layer : List Entry) → last_digest before (layers ++ layer ∷ []) ≡ sha256 (last_digest before layers ++ layer_text layer)
last_digest-more before [] layer = refl
last_digest-more before (l ∷ ls) layer = last_digest-more (sha256 (before ++ layer_text l)) ls layer

chain-more : (before : List ℕ) (layers : List (List Entry)) (layer : List Entry) → chain before (layers ++ layer ∷ []) ≡ chain before layers ++ (layer_text layer ++ sha256 (last_digest before layers ++ layer_text layer))
chain-more before [] layer = append-nil (layer_text layer ++ sha256 (before ++ layer_text layer))
chain-more before (l ∷ ls) layer =
    ap (λ (t : List ℕ). layer_text l ++ sha256 (before ++ layer_text l) ++ t) (chain-more (sha256 (before ++ layer_text l)) ls layer)
    ∙ sym (append_assoc (layer_text l ++ sha256 (before ++ layer_text l)) (chain (sha256 (before ++ layer_text l)) ls) _)

flat-more : (layers : List (List Entry)) (layer : List Entry) → flat_map layer_text (layers ++ layer ∷ []) ≡ flat_map layer_text layers ++ layer_text layer
flat-more layers layer = flat_map-append layer_text layers (layer ∷ []) ∙ ap (λ (t : List ℕ). flat_map layer_text layers ++ t) (append-nil (layer_text layer))

-- what the next digest is over, behind one more layer
pub base-more : (f : Format) (head : List ℕ) (layers : List (List Entry)) (layer : List Entry) → base f head (layers ++ layer ∷ []) ≡ next_base f (base f head layers) layer
base-more Whole head layers layer = ap (λ (t : List ℕ). head ++ t) (flat-more layers layer) ∙ sym (append_assoc head (flat_map layer_text layers) (layer_text layer))
base-more Layered head layers layer = last_digest-more head layers layer

-- the bytes of the layers, with one more
pub body-more : (f : Format) (head : List ℕ) (layers : List (List Entry)) (layer : List Entry) → body f head (layers ++ layer ∷ []) ≡ body f head layers ++ layer_bytes f (base f head layers) layer
body-more Whole head layers layer = flat-more layers layer
body-more Layered head layers layer = chain-more head layers layer

pub body-none : (f : Format) (head : List ℕ) → body f head [] ≡ []
body-none Whole head = refl
body-none Layered head = refl
