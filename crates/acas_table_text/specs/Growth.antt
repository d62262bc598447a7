-- How the text of a table grows, layer by layer, behind its header.
use Rattle.std.specs.Prelude.{ℕ, List, [], ◌∷◌, ◌++◌}
use Rattle.std.specs.List.{flat_map}
use Rattle.sha2.specs.Sha256.{sha256}
use Rattle.acas_units.specs.declared.pair.Entry.{Entry}
use Rattle.acas_table_text.specs.Text.{chain, layer_text}
use Rattle.acas_table_text.specs.declared.format.Format.{Format}
use Rattle.acas_table_text.specs.declared.format.Format.TheVariants.{Layered, Whole}

-- the last digest of a chain
abbrev pub last_digest : List ℕ → List (List Entry) → List ℕ
last_digest before [] = before
last_digest before (layer ∷ layers) = last_digest (sha256 (before ++ layer_text layer)) layers

-- the bytes of the layers behind a header
abbrev pub body : Format → List ℕ → List (List Entry) → List ℕ
body Whole head layers = flat_map layer_text layers
body Layered head layers = chain head layers

-- what the next digest is over, before any further layer
abbrev pub base : Format → List ℕ → List (List Entry) → List ℕ
base Whole head layers = head ++ flat_map layer_text layers
base Layered head layers = last_digest head layers

-- what follows the layers: the one digest over all, or nothing
abbrev pub ending : Format → List ℕ → List ℕ
ending Whole before = sha256 before
ending Layered before = []

-- a header and the layers behind it
abbrev pub front : Format → List ℕ → List (List Entry) → List ℕ
front f head layers = head ++ body f head layers

-- all that a table with this header and these layers has
abbrev pub text_behind : Format → List ℕ → List (List Entry) → List ℕ
text_behind f head layers = front f head layers ++ ending f (base f head layers)

-- the bytes of one more layer
abbrev pub layer_bytes : Format → List ℕ → List Entry → List ℕ
layer_bytes Whole before layer = layer_text layer
layer_bytes Layered before layer = layer_text layer ++ sha256 (before ++ layer_text layer)

-- what the next digest is over, behind that layer
abbrev pub next_base : Format → List ℕ → List Entry → List ℕ
next_base Whole before layer = before ++ layer_text layer
next_base Layered before layer = sha256 (before ++ layer_text layer)
