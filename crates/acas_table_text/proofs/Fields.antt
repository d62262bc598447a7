-- The bytes of fields.
use Rattle.std.proofs.Common.{◌≡◌, ℕ, List, [], ◌++◌, append_assoc}
use Rattle.std.proofs.lemmas.List.{append-nil}
use Rattle.std.specs.Prelude.{codes}
use Rattle.std.specs.List.{flat_map}
use Rattle.byteorder.specs.Endian.{little_bytes}
use Rattle.acas_table_text.specs.Format.{version_of}
use Rattle.acas_table_text.specs.Text.{header}
use Rattle.acas_table_text.specs.Faults.{header_fields, model_fields}
use Rattle.acas_table_text.specs.declared.format.Format.{Format}
use Rattle.acas_table_text.specs.declared.shape.TableShape.{TableShape}
use Rattle.acas_table_text.specs.declared.field.Field.{Field}
use Rattle.acas_table_text.specs.declared.field.Field.TheVariants as fields

-- the bytes that a field is to have in a file of a format
abbrev pub field_text : Format → Field → List ℕ
field_text f fields.Magic = codes "ACXT"
field_text f fields.Version = little_bytes 4 (version_of f)
field_text f (fields.Model digest) = digest
field_text f (fields.Number place expected) = little_bytes 4 expected
field_text f (fields.Digest computed) = computed
field_text f (fields.LayerDigest layer computed) = computed

regroup : (c v m a b d e h : List ℕ) → c ++ v ++ m ++ a ++ b ++ d ++ e ++ h ≡ c ++ (v ++ (m ++ (a ++ (b ++ (d ++ (e ++ (h ++ [])))))))
regroup c v m a b d e h = simp (append_assoc, append-nil)

-- a header is the bytes of its fields
pub header_is : (f : Format) (model : List ℕ) (s : TableShape) → header f model s ≡ flat_map (field_text f) (header_fields model s)
unfolding header model_fields
header_is f model s =
    regroup (codes "ACXT") (little_bytes 4 (version_of f)) model (little_bytes 4 s.altitudes) (little_bytes 4 s.own_rates) (little_bytes 4 s.intruder_rates) (little_bytes 4 s.advisories) (little_bytes 4 s.horizon)
