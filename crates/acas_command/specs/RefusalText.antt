-- What is printed of a table's refusal.
use Rattle.std.specs.Prelude.{ℕ, ℤ, List, ◌++◌, codes}
use Rattle.std.specs.Fmt.{decimal}
use Rattle.hex.specs.Hex.{encode_lower}
use Rattle.acas_outside.specs.Printed.{millionths_text}
use Rattle.acas_spec.specs.declared.fault.BoundFault.{BoundFault}
use Rattle.acas_spec.specs.declared.fault.BoundFault.TheVariants.{AdviceNotAllowed, UpperTooLow, LowerTooHigh}
use Rattle.acas_table_text.specs.declared.fault.TableFault.{TableFault}
use Rattle.acas_table_text.specs.declared.fault.TableFault.TheVariants as form
use Rattle.acas_table_text.specs.declared.refusal.TableRefusal.{TableRefusal}
use Rattle.acas_table_text.specs.declared.refusal.TableRefusal.TheVariants.{Form, Entry}

-- two digests in lower case hexadecimal digits
unfoldable pub model_text : List ℕ → List ℕ → List ℕ
model_text kept found = codes "other model " ++ encode_lower kept ++ codes " found " ++ encode_lower found

unfoldable pub digest_text : List ℕ → List ℕ → List ℕ
digest_text kept computed = codes "digest " ++ encode_lower kept ++ codes " computed " ++ encode_lower computed

-- the digest of a layer
unfoldable pub layer_digest_text : ℕ → List ℕ → List ℕ → List ℕ
layer_digest_text layer kept computed = codes "layer " ++ decimal layer ++ codes " " ++ digest_text kept computed

-- one of the five numbers of the header, by its place
unfoldable pub shape_text : ℕ → ℕ → ℕ → List ℕ
shape_text place kept expected = codes "shape " ++ decimal place ++ codes " is " ++ decimal kept ++ codes " not " ++ decimal expected

unfoldable pub length_text : ℕ → ℕ → List ℕ
length_text expected found = codes "length " ++ decimal found ++ codes " of " ++ decimal expected

-- a state of a layer
unfoldable pub state_text : ℕ → ℕ → List ℕ
state_text layer state = codes "layer " ++ decimal layer ++ codes " state " ++ decimal state

unfoldable pub byte_text : ℕ → ℕ → ℕ → List ℕ
byte_text layer state byte = state_text layer state ++ codes " byte " ++ decimal byte

-- two values against each other
unfoldable pub upper_text : ℤ → ℤ → List ℕ
upper_text stands needed = codes " upper " ++ millionths_text stands ++ codes " under " ++ millionths_text needed

unfoldable pub lower_text : ℤ → ℤ → List ℕ
lower_text stands allowed = codes " lower " ++ millionths_text stands ++ codes " over " ++ millionths_text allowed

-- what an entry fails
abbrev pub bound_text : BoundFault → List ℕ
bound_text AdviceNotAllowed = codes " advice not allowed"
bound_text (UpperTooLow stands needed) = upper_text stands needed
bound_text (LowerTooHigh stands allowed) = lower_text stands allowed

-- what is wrong with the form; no refusal holds one of the last three
abbrev pub form_text : TableFault → List ℕ
form_text form.Magic = codes "magic"
form_text (form.Version found) = codes "version " ++ decimal found
form_text (form.OtherModel kept found) = model_text kept found
form_text (form.Shape place kept expected) = shape_text place kept expected
form_text (form.Length expected found) = length_text expected found
form_text (form.Advice layer state byte) = byte_text layer state byte
form_text (form.Digest kept computed) = digest_text kept computed
form_text (form.LayerDigest layer kept computed) = layer_digest_text layer kept computed
form_text form.Failed = codes "read failed"
form_text form.Absent = codes "absent"
form_text form.Memory = codes "out of memory"

-- the first field or entry that is not as it is to be
abbrev pub refusal_text : TableRefusal → List ℕ
refusal_text (Form fault) = form_text fault
refusal_text (Entry layer state fault) = state_text layer state ++ bound_text fault
