-- The document of some bytes.
use Rattle.std.specs.Prelude.{ℕ, List, if◌then◌else◌, Option, None, Result}
use Rattle.std.specs.Str.{is_utf8}
use Rattle.toml.specs.Data.{Members}
use Rattle.toml.specs.Parse.{parse_document}
use Rattle.acas_doc.specs.Values.{or_fault}

-- the bytes are a text in UTF-8, and the text is a TOML document
unfoldable pub document_in : List ℕ → Option Members
document_in bytes = if is_utf8 bytes then parse_document bytes else None

-- the document of the bytes, or this fault where they are none
unfoldable pub document_of : {E : Type 0} → E → List ℕ → Result Members E
document_of not_toml bytes = or_fault not_toml (document_in bytes)
