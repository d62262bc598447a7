-- A table that has known keys alone.
use Rattle.std.proofs.Common.{◌≡◌, ◌⊎◌, ℕ, true, List, Option, Some, IsSome, nat_cmp, is_eq, Ordering, Less, Equal, Greater, inl, inr, refl, sym, ap, ◌∙◌}
use Rattle.std.specs.Cmp.Lexicographic.{slice_cmp}
use Rattle.std.specs.Ordering.{match_ordering}
use Rattle.std.proofs.lemmas.Bool.{false≢true}
use Rattle.std.proofs.lemmas.Map.Text.{is_eq-slice_cmp}
use Rattle.std.proofs.lemmas.Slice.Eq.{bytes_eq-Decides}
use Rattle.toml.specs.Data.{Data, Members, no_members, member, get_member}
use Rattle.acas_doc.specs.Known.{IsUnknown, is_known}
use Rattle.acas_model.specs.Text.{HasOnly}

-- each key is known, by recursion
abbrev pub AreKnown : List ℕ → Members → Type 0
AreKnown known no_members = Unit {0}
AreKnown known (member l d ms) = (is_known known l ≡ true) × AreKnown known ms

-- a key that a table has is its first or one of the others
first_or_later_by : (o : Ordering) (key l : List ℕ) (d : Data) (rest : Option Data) → slice_cmp nat_cmp key l ≡ o → IsSome (match_ordering o rest (Some d) rest) → (key ≡ l) ⊎ IsSome rest
first_or_later_by Less key l d rest e h = inr h
first_or_later_by Equal key l d rest e h = inl ((bytes_eq-Decides key l).0 (sym (is_eq-slice_cmp key l) ∙ ap is_eq e))
first_or_later_by Greater key l d rest e h = inr h

none_unknown : (known : List ℕ) (ms : Members) → AreKnown known ms → (key : List ℕ) → IsUnknown known ms key → ⊥
none_unknown known no_members all key u = false≢true u.there
none_unknown known (member l d ms) all key u =
    elim (first_or_later_by (slice_cmp nat_cmp key l) key l d (get_member key ms) refl u.there) [
      | inl same ↦ false≢true (sym u.unknown ∙ rw same all.0)
      | inr later ↦ none_unknown known ms all.1 key (record { there = later; unknown = u.unknown })
    ]

pub only : (known : List ℕ) (ms : Members) → AreKnown known ms → HasOnly known ms
only known ms all = record { none = none_unknown known ms all }
