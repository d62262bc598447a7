-- The first fault of bytes that are read as a table, from left to right.
use Rattle.std.specs.Prelude.{ℕ, zero, suc, ◌+◌, ◌-◌, ◌/◌, ◌%◌, nat_lt, ◌==◌, Bool, if◌then◌else◌, is_some, List, [], ◌∷◌, length, Option, Some, None, codes}
use Rattle.std.specs.Str.{bytes_eq}
use Rattle.sha2.specs.Sha256.{sha256}
use Rattle.byteorder.specs.Endian.{little_number}
use Rattle.acas_table_text.specs.Shape.{entry_count}
use Rattle.acas_table_text.specs.Format.{digest_start, ended_group, entry_start, expected_length, format_of, format_of_version, hashed_from, last_group, part}
use Rattle.acas_table_text.specs.Text.{entry_of}
use Rattle.acas_table_text.specs.declared.format.Format.{Format}
use Rattle.acas_table_text.specs.declared.format.Format.TheVariants.{Layered, Whole}
use Rattle.acas_table_text.specs.declared.shape.TableShape.{TableShape}
use Rattle.acas_table_text.specs.declared.field.Field.{Field}
use Rattle.acas_table_text.specs.declared.field.Field.TheVariants as fields
use Rattle.acas_table_text.specs.declared.fault.TableFault.{TableFault}
use Rattle.acas_table_text.specs.declared.fault.TableFault.TheVariants.{Magic, Version, OtherModel, Shape, Length, Advice, Digest, LayerDigest}

-- the first of a list that is there
abbrev pub first : {A : Type 0} → List (Option A) → Option A
first [] = None
first (None ∷ rest) = first rest
first (Some fault ∷ rest) = Some fault

-- the first of those at 0 to n - 1
abbrev pub first_below : {A : Type 0} → (ℕ → Option A) → ℕ → Option A
first_below fault zero = None
first_below fault (suc n) = first (first_below fault n ∷ fault n ∷ [])

-- the file ends before the end of the n bytes at a place
abbrev pub end_fault : ℕ → List ℕ → ℕ → ℕ → Option TableFault
end_fault expected bytes at n =
    if nat_lt (length bytes) (at + n) then Some (Length expected (length bytes)) else None

abbrev pub unless : Bool → TableFault → Option TableFault
unless good fault = if good then None else Some fault

-- a field of n bytes at a place: the file ends before its end, or the field has this fault
abbrev pub field_fault : ℕ → List ℕ → ℕ → ℕ → (List ℕ → Option TableFault) → Option TableFault
field_fault expected bytes at n fault = first (end_fault expected bytes at n ∷ fault (part bytes at n) ∷ [])

-- how many bytes a field has
abbrev pub width_of : Field → ℕ
width_of fields.Magic = 4
width_of fields.Version = 4
width_of (fields.Model digest) = 32
width_of (fields.Number place expected) = 4
width_of (fields.Digest computed) = 32
width_of (fields.LayerDigest layer computed) = 32

-- a version that is neither 1 nor 2
abbrev pub version_fault : ℕ → Option TableFault
version_fault version = unless (is_some (format_of_version version)) (Version version)

-- the fault of a field that has the found bytes
abbrev pub fault_in : Field → List ℕ → Option TableFault
fault_in fields.Magic found = unless (bytes_eq found (codes "ACXT")) Magic
fault_in fields.Version found = version_fault (little_number 4 found)
fault_in (fields.Model digest) found = unless (bytes_eq found digest) (OtherModel found digest)
fault_in (fields.Number place expected) found =
    unless (little_number 4 found == expected) (Shape place (little_number 4 found) expected)
fault_in (fields.Digest computed) found = unless (bytes_eq found computed) (Digest found computed)
fault_in (fields.LayerDigest layer computed) found =
    unless (bytes_eq found computed) (LayerDigest layer found computed)

-- the fault of a field at a place
abbrev pub fault_at : ℕ → ℕ → Field → List ℕ → Option TableFault
fault_at expected at field bytes = field_fault expected bytes at (width_of field) (fault_in field)

-- how many bytes some fields have
abbrev pub widths : List Field → ℕ
widths [] = 0
widths (field ∷ rest) = width_of field + widths rest

-- the first fault of fields that follow one another from a place on
abbrev pub fields_fault : ℕ → ℕ → List Field → List ℕ → Option TableFault
fields_fault expected at [] bytes = None
fields_fault expected at (field ∷ rest) bytes =
    first (fault_at expected at field bytes ∷ fields_fault expected (at + width_of field) rest bytes ∷ [])

-- the fields that say what the file is
abbrev pub front_fields : List Field
front_fields = fields.Magic ∷ fields.Version ∷ []

-- the fields that say of what model it is a table
unfoldable pub model_fields : List ℕ → TableShape → List Field
model_fields digest s =
    fields.Model digest
    ∷ fields.Number 0 s.altitudes
    ∷ fields.Number 1 s.own_rates
    ∷ fields.Number 2 s.intruder_rates
    ∷ fields.Number 3 s.advisories
    ∷ fields.Number 4 s.horizon
    ∷ []

-- the fields of the header
abbrev pub header_fields : List ℕ → TableShape → List Field
header_fields digest s = fields.Magic ∷ fields.Version ∷ model_fields digest s

unfoldable pub header_fault : List ℕ → TableShape → List ℕ → Option TableFault
header_fault digest s bytes = fields_fault (expected_length s bytes) 0 (header_fields digest s) bytes

-- the digest of a group, as a field
abbrev pub digest_field : Format → ℕ → List ℕ → Field
digest_field Whole k computed = fields.Digest computed
digest_field Layered k computed = fields.LayerDigest k computed

-- what the digest of a group is to be
abbrev pub group_digest : TableShape → List ℕ → ℕ → List ℕ
group_digest s bytes k =
    let f = format_of bytes in
    sha256 (part bytes (hashed_from f s k) (digest_start f s k - hashed_from f s k))

-- the digest of a group is there, and is this one
unfoldable pub kept_fault : TableShape → ℕ → List ℕ → List ℕ → Option TableFault
kept_fault s k computed bytes =
    let f = format_of bytes in
    fault_at (expected_length s bytes) (digest_start f s k) (digest_field f k computed) bytes

abbrev pub digest_fault : TableShape → List ℕ → ℕ → Option TableFault
digest_fault s bytes k = kept_fault s k (group_digest s bytes k) bytes

-- the digest of the group that ends before an entry, where one does
abbrev pub ended_fault : TableShape → List ℕ → Option ℕ → Option TableFault
ended_fault s bytes None = None
ended_fault s bytes (Some k) = digest_fault s bytes k

-- the advice of an entry, by its number: 255 in layer 0, and an advisory's number above it
abbrev pub advice_fault : TableShape → ℕ → ℕ → Option TableFault
advice_fault s i byte =
    unless (if nat_lt i s.states then byte == 255 else nat_lt byte s.advisories)
    (Advice (i / s.states) (i % s.states) byte)

-- the bytes of an entry and its advice
unfoldable pub bytes_fault : TableShape → List ℕ → ℕ → Option TableFault
bytes_fault s bytes i =
    field_fault (expected_length s bytes) bytes (entry_start (format_of bytes) s i) 17
    (λ field. advice_fault s i (entry_of field).advice)

-- an entry is looked at behind the digest of the group that ends before it
unfoldable pub entry_fault : TableShape → List ℕ → ℕ → Option TableFault
entry_fault s bytes i =
    first (ended_fault s bytes (ended_group (format_of bytes) s i) ∷ bytes_fault s bytes i ∷ [])

-- one more byte follows the expected ones
abbrev pub more_fault : ℕ → List ℕ → Option TableFault
more_fault expected bytes =
    if nat_lt expected (length bytes) then Some (Length expected (expected + 1)) else None

unfoldable pub rest_fault : TableShape → List ℕ → Option TableFault
rest_fault s bytes = more_fault (expected_length s bytes) bytes

-- behind the entries: the digest of the last group, and the end
abbrev pub tail_fault : TableShape → List ℕ → Option TableFault
tail_fault s bytes = first (digest_fault s bytes (last_group (format_of bytes) s) ∷ rest_fault s bytes ∷ [])

unfoldable pub first_fault : List ℕ → TableShape → List ℕ → Option TableFault
first_fault digest s bytes =
    first (
    header_fault digest s bytes
    ∷ first_below (entry_fault s bytes) (entry_count s)
    ∷ tail_fault s bytes
    ∷ [])
