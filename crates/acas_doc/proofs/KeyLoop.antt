-- The keys of a table, one after the other.
use Rattle.std.proofs.Common.{◌≡◌, ℕ, true, false, List, [], ◌∷◌, Option, Some, None, String, Global, string_bytes, refl, sym, ◌∙◌}
use Rattle.toml.specs.View.{members_view}
use Rattle.toml.specs.declared.value.Value.{Value}
use Rattle.acas_doc.specs.Known.{is_known, unknown_in}

-- the entries that are left
abbrev pub Left : Type 0
Left = List (String Global × Value)

-- a known key leaves the answer to the keys after it
pub known_next : (known : List ℕ) (s t : Left) (k : String Global) (v : Value) (total : Option (List ℕ)) → s ≡ (k, v) ∷ t → is_known known (string_bytes k) ≡ true
    → unknown_in known (members_view s) ≡ total → unknown_in known (members_view t) ≡ total
unfolding unknown_in
known_next known s t k v total e is so_far =
    let one : unknown_in known (members_view s) ≡ unknown_in known (members_view t) = rw (e, is) refl in
    sym one ∙ so_far

-- a key that is not known is the answer
pub known_ends : (known : List ℕ) (s t : Left) (k : String Global) (v : Value) (total : Option (List ℕ)) → s ≡ (k, v) ∷ t → is_known known (string_bytes k) ≡ false
    → unknown_in known (members_view s) ≡ total → Some (string_bytes k) ≡ total
unfolding unknown_in
known_ends known s t k v total e is so_far =
    let one : unknown_in known (members_view s) ≡ Some (string_bytes k) = rw (e, is) refl in
    sym one ∙ so_far

-- where no key is left there is none
pub known_done : (known : List ℕ) (s : Left) (total : Option (List ℕ)) → s ≡ [] → unknown_in known (members_view s) ≡ total → None ≡ total
unfolding unknown_in
known_done known s total e so_far =
    let one : unknown_in known (members_view s) ≡ None = rw e refl in
    sym one ∙ so_far
