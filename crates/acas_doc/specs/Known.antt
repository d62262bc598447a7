-- The keys that a table may have.
use Rattle.std.specs.Prelude.{◌≡◌, ◌≢◌, ℕ, List, Bool, false, ◌==◌, if◌then◌else◌, Option, Some, None, IsSome, Result, Ok, Err}
use Rattle.std.specs.List.{slice_split, list_any}
use Rattle.std.specs.Str.{bytes_eq}
use Rattle.std.specs.Ordering.{nat_cmp}
use Rattle.std.specs.Cmp.Lexicographic.{slice_cmp}
use Rattle.std.specs.declared.cmp.Ordering.TheVariants.{Less}
use Rattle.toml.specs.Data.{Members, no_members, member, get_member}
use Rattle.acas_doc.specs.declared.fault.DocKind.TheVariants.{UnknownKey}
use Rattle.acas_doc.specs.declared.fault.DocFault.{DocFault}
use Rattle.acas_doc.specs.Paths.{key_path}

-- the key is one of those that a text names, with a space between each two
abbrev pub is_known : List ℕ → List ℕ → Bool
is_known known key = list_any (λ word. bytes_eq word key) (slice_split (λ b. b == 32) known)

-- the first key of the table that is not known
unfoldable pub unknown_in : List ℕ → Members → Option (List ℕ)
unknown_in known no_members = None
unknown_in known (member key d ms) = if is_known known key then unknown_in known ms else Some key

-- no key, or the fault of an unknown one
abbrev pub none_unknown : List ℕ → Option (List ℕ) → Result (Unit {0}) DocFault
none_unknown path None = Ok tt
none_unknown path (Some key) = Err (record { key = key_path path key; kind = UnknownKey })

-- each key of the table at this path is known
unfoldable pub only_known : List ℕ → List ℕ → Members → Result (Unit {0}) DocFault
only_known path known ms = none_unknown path (unknown_in known ms)

-- the table has this key, and it is not known
pub record IsUnknown (known : List ℕ) (ms : Members) (key : List ℕ) : Type 0 where
  pub there : IsSome (get_member key ms)
  pub unknown : is_known known key ≡ false

-- it is the least such key, by its bytes
pub record IsLeastUnknown (known : List ℕ) (ms : Members) (key : List ℕ) : Type 0 where
  pub is_one : IsUnknown known ms key
  pub least : (other : List ℕ) → IsUnknown known ms other → slice_cmp nat_cmp other key ≢ Less
