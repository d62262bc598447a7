-- The bytes of a table. Numbers are little endian.
use Rattle.std.specs.Prelude.{ℕ, List, [], ◌∷◌, ◌++◌, slice_index, codes}
use Rattle.std.specs.Int.{w64, cast_signed, cast_unsigned}
use Rattle.std.specs.List.{flat_map}
use Rattle.sha2.specs.Sha256.{sha256}
use Rattle.byteorder.specs.Endian.{little_bytes, little_number}
use Rattle.acas_units.specs.declared.pair.Entry.{Entry}
use Rattle.acas_units.specs.declared.pair.Pair.{Pair}
use Rattle.acas_table_text.specs.Format.{entry_start, format_of, part, version_of}
use Rattle.acas_table_text.specs.declared.format.Format.{Format}
use Rattle.acas_table_text.specs.declared.format.Format.TheVariants.{Layered, Whole}
use Rattle.acas_table_text.specs.declared.shape.TableShape.{TableShape}

-- an entry has 17 bytes: its upper value, its lower value and its advice
unfoldable pub entry_text : Entry → List ℕ
entry_text e =
    little_bytes 8 (cast_unsigned w64 e.pair.upper) ++ little_bytes 8 (cast_unsigned w64 e.pair.lower)
    ++ e.advice ∷ []

-- the entries of a layer, from its values and its advices
abbrev pub layer_of : List Pair → List ℕ → List Entry
layer_of (pair ∷ pairs) (byte ∷ advice) = record { pair = pair; advice = byte } ∷ layer_of pairs advice
layer_of pairs advice = []

-- a layer, or a group of layers, is its entries, one after another
abbrev pub layer_text : List Entry → List ℕ
layer_text entries = flat_map entry_text entries

-- the header: four letters, the version, the digest of the model's text, and the numbers of altitudes, own rates,
-- intruder rates and advisories, and the horizon
unfoldable pub header : Format → List ℕ → TableShape → List ℕ
header f digest s =
    codes "ACXT" ++ little_bytes 4 (version_of f) ++ digest
    ++ little_bytes 4 s.altitudes ++ little_bytes 4 s.own_rates ++ little_bytes 4 s.intruder_rates
    ++ little_bytes 4 s.advisories ++ little_bytes 4 s.horizon

-- group after group, each with a digest over what stands before it: the header, or the digest of the group before
abbrev pub chain : List ℕ → List (List Entry) → List ℕ
chain before [] = []
chain before (group ∷ groups) =
    layer_text group
    ++ sha256 (before ++ layer_text group)
    ++ chain (sha256 (before ++ layer_text group)) groups

-- the groups of entries that have a digest behind them: all entries as one group, or each layer as one
abbrev pub groups_of : Format → List (List Entry) → List (List Entry)
groups_of Whole layers = flat_map (λ layer. layer) layers ∷ []
groups_of Layered layers = layers

-- the text of layers, from the digest of their model's text and their shape: the header, and group after group
abbrev pub text_of_layers : Format → List ℕ → TableShape → List (List Entry) → List ℕ
text_of_layers f digest s layers = header f digest s ++ chain (header f digest s) (groups_of f layers)

-- the entry that 17 bytes are
unfoldable pub entry_of : List ℕ → Entry
entry_of field = record {
  pair = record {
    upper = cast_signed w64 (little_number 8 (part field 0 8));
    lower = cast_signed w64 (little_number 8 (part field 8 8));
  };
  advice = slice_index field 16;
}

-- the entry of a number, as a file has it
abbrev pub entry_at : TableShape → List ℕ → ℕ → Entry
entry_at s bytes i = entry_of (part bytes (entry_start (format_of bytes) s i) 17)
