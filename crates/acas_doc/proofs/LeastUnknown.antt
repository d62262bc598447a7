-- In a table, whose keys ascend, the first key that is not known is the least.
use Rattle.std.proofs.Common.{◌≡◌, ◌≢◌, ◌⊎◌, ◌↔◌, ℕ, true, List, [], ◌∷◌, Option, Some, None, IsSome, Result, Ok, Err, String, Global, string_bytes, string_cmp, nat_cmp, is_eq, Ordering, Less, Equal, Greater, inl, inr, refl, sym, subst, ap, ◌∙◌}
use Rattle.std.specs.Cmp.Lexicographic.{slice_cmp}
use Rattle.std.specs.List.{AllByRecursion}
use Rattle.std.specs.List.Sorted.{IsStrictlySortedBy}
use Rattle.std.specs.Map.{keys_of}
use Rattle.std.specs.Ordering.{ordering_reverse, match_ordering}
use Rattle.std.specs.Cmp.{tied_itself}
use Rattle.std.proofs.lemmas.Bool.{cases_Bool, false≢true}
use Rattle.std.proofs.lemmas.Cmp.{nat_list_cmp_total}
use Rattle.std.proofs.lemmas.List.{append_cancel_left}
use Rattle.std.proofs.lemmas.Map.Text.{is_eq-slice_cmp}
use Rattle.std.proofs.lemmas.Option.{same_Some}
use Rattle.std.proofs.lemmas.Slice.Eq.{bytes_eq-Decides}
use Rattle.toml.specs.Data.{Data, Members, no_members, member, get_member}
use Rattle.toml.specs.View.{view, members_view}
use Rattle.acas_doc.specs.declared.fault.DocFault.{DocFault}
use Rattle.acas_doc.specs.declared.fault.DocKind.TheVariants.{UnknownKey}
use Rattle.acas_doc.specs.Paths.{key_path}
use Rattle.acas_doc.specs.Known.{is_known, unknown_in, none_unknown, only_known, IsUnknown, IsLeastUnknown}
use Rattle.acas_doc.proofs.KeyLoop.{Left}

less_greater : ◌≡◌ {A = Ordering} Less Greater → ⊥
less_greater e = cc

less_equal : ◌≡◌ {A = Ordering} Less Equal → ⊥
less_equal e = cc

-- a key that a table has is its first or one of the others
first_or_later_by : (o : Ordering) (key l : List ℕ) (d : Data) (rest : Option Data) → slice_cmp nat_cmp key l ≡ o → IsSome (match_ordering o rest (Some d) rest) → (key ≡ l) ⊎ IsSome rest
first_or_later_by Less key l d rest e h = inr h
first_or_later_by Equal key l d rest e h = inl ((bytes_eq-Decides key l).0 (sym (is_eq-slice_cmp key l) ∙ ap is_eq e))
first_or_later_by Greater key l d rest e h = inr h

first_or_later : (key l : List ℕ) (d : Data) (ms : Members) → IsSome (get_member key (member l d ms)) → (key ≡ l) ⊎ IsSome (get_member key ms)
first_or_later key l d ms h = first_or_later_by (slice_cmp nat_cmp key l) key l d (get_member key ms) refl h

first_is_there : (l : List ℕ) (d : Data) (ms : Members) → IsSome (get_member l (member l d ms))
first_is_there l d ms = rw (tied_itself nat_list_cmp_total l) refl

later_is_there_by : (o : Ordering) (d : Data) (rest : Option Data) → IsSome rest → IsSome (match_ordering o rest (Some d) rest)
later_is_there_by Less d rest h = h
later_is_there_by Equal d rest h = refl
later_is_there_by Greater d rest h = h

later_is_there : (key l : List ℕ) (d : Data) (ms : Members) → IsSome (get_member key ms) → IsSome (get_member key (member l d ms))
later_is_there key l d ms h = later_is_there_by (slice_cmp nat_cmp key l) d (get_member key ms) h

-- an unknown key of the table is one of the keys after a known one
unknown_later : (known key l : List ℕ) (d : Data) (ms : Members) → is_known known l ≡ true → IsUnknown known (member l d ms) key → IsUnknown known ms key
unknown_later known key l d ms is u =
    elim (first_or_later key l d ms u.there) [
      | inl same ↦ absurd (false≢true (sym u.unknown ∙ rw same is))
      | inr later ↦ record { there = later; unknown = u.unknown }
    ]

unknown_still : (known key l : List ℕ) (d : Data) (ms : Members) → IsUnknown known ms key → IsUnknown known (member l d ms) key
unknown_still known key l d ms u = record { there = later_is_there key l d ms u.there; unknown = u.unknown }

-- where no key is unknown, none is found
none_is_unknown : (known : List ℕ) (ms : Members) → unknown_in known ms ≡ None → (key : List ℕ) → ¬ IsUnknown known ms key
unfolding unknown_in
none_is_unknown known no_members is key u = absurd (false≢true u.there)
none_is_unknown known (member l d ms) is key u =
    elim (cases_Bool (is_known known l)) [
      | inl known_one ↦ none_is_unknown known ms (rw known_one at is) key (unknown_later known key l d ms known_one u)
      | inr none ↦ absurd (some_none l (rw none at is))
    ]
  where
    some_none : (k : List ℕ) → ◌≡◌ {A = Option (List ℕ)} (Some k) None → ⊥
    some_none k e = cc

-- what is found is not known
found_is_unknown : (known : List ℕ) (ms : Members) (key : List ℕ) → unknown_in known ms ≡ Some key → IsUnknown known ms key
unfolding unknown_in
found_is_unknown known no_members key is = absurd (none_some key is)
  where
    none_some : (k : List ℕ) → ◌≡◌ {A = Option (List ℕ)} None (Some k) → ⊥
    none_some k e = cc
found_is_unknown known (member l d ms) key is =
    elim (cases_Bool (is_known known l)) [
      | inl known_one ↦ unknown_still known key l d ms (found_is_unknown known ms key (rw known_one at is))
      | inr none ↦ subst (IsUnknown known (member l d ms)) (same_Some l key (rw none at is)) (record { there = first_is_there l d ms; unknown = none })
    ]

-- no key of those above this one comes before it
none_before_above : (k : String Global) (es : Left) → AllByRecursion (λ y. string_cmp k y ≡ Less) (keys_of es) → (key : List ℕ) → IsSome (get_member key (members_view es)) → slice_cmp nat_cmp key (string_bytes k) ≢ Less
none_before_above k [] above key there before = absurd (false≢true there)
none_before_above k (e ∷ es) above key there before =
    elim (first_or_later key (string_bytes e.0) (view e.1) (members_view es) there) [
      | inl same ↦
          let after : slice_cmp nat_cmp (string_bytes e.0) (string_bytes k) ≡ Greater = nat_list_cmp_total.antisymm (string_bytes e.0) (string_bytes k) ∙ ap ordering_reverse above.0 in
          less_greater (sym (rw same at before) ∙ after)
      | inr later ↦ none_before_above k es above.1 key later before
    ]

found_is_least : (known : List ℕ) (es : Left) (key : List ℕ) → IsStrictlySortedBy string_cmp (keys_of es) → unknown_in known (members_view es) ≡ Some key
    → (other : List ℕ) → IsUnknown known (members_view es) other → slice_cmp nat_cmp other key ≢ Less
unfolding IsStrictlySortedBy unknown_in
found_is_least known [] key ordered is other u before = absurd (false≢true u.there)
found_is_least known (e ∷ es) key ordered is other u before =
    elim (cases_Bool (is_known known (string_bytes e.0))) [
      | inl known_one ↦
          found_is_least known es key ordered.1 (rw known_one at is) other (unknown_later known other (string_bytes e.0) (view e.1) (members_view es) known_one u) before
      | inr none ↦
          let same : string_bytes e.0 ≡ key = same_Some _ _ (rw none at is) in
          let sooner : slice_cmp nat_cmp other (string_bytes e.0) ≡ Less = rw same before in
          elim (first_or_later other (string_bytes e.0) (view e.1) (members_view es) u.there) [
            | inl first ↦ less_equal (sym (rw first at sooner) ∙ tied_itself nat_list_cmp_total (string_bytes e.0))
            | inr later ↦ none_before_above e.0 es ordered.0 other later sooner
          ]
    ]

first_is_least : (known : List ℕ) (es : Left) (key : List ℕ) → IsStrictlySortedBy string_cmp (keys_of es) → unknown_in known (members_view es) ≡ Some key → IsLeastUnknown known (members_view es) key
first_is_least known es key ordered is = record {
  is_one = found_is_unknown known (members_view es) key is;
  least = found_is_least known es key ordered is;
}

-- two keys of which neither comes before the other are the same
not_before : (o : Ordering) (key other : List ℕ) → slice_cmp nat_cmp key other ≡ o → slice_cmp nat_cmp key other ≢ Less → slice_cmp nat_cmp other key ≢ Less → key ≡ other
not_before Less key other e n m = absurd (n e)
not_before Equal key other e n m = (bytes_eq-Decides key other).0 (sym (is_eq-slice_cmp key other) ∙ ap is_eq e)
not_before Greater key other e n m = absurd (m (nat_list_cmp_total.antisymm other key ∙ ap ordering_reverse e))

least_is_one : (known : List ℕ) (ms : Members) (key other : List ℕ) → IsLeastUnknown known ms key → IsLeastUnknown known ms other → key ≡ other
least_is_one known ms key other k o = not_before (slice_cmp nat_cmp key other) key other refl (o.least key k.is_one) (k.least other o.is_one)

-- paths in one table differ where their keys do
same_key_path : (path key other : List ℕ) → key_path path key ≡ key_path path other → key ≡ other
same_key_path [] key other e = e
same_key_path (b ∷ path) key other e = append_cancel_left (46 ∷ []) key other (append_cancel_left (b ∷ path) (46 ∷ key) (46 ∷ other) e)

cases_found : (r : Option (List ℕ)) → (r ≡ None) ⊎ ((key : List ℕ) × (r ≡ Some key))
cases_found None = inl refl
cases_found (Some key) = inr (key, refl)

passed_none : (path : List ℕ) (r : Option (List ℕ)) → none_unknown path r ≡ Ok tt → r ≡ None
passed_none path None e = refl
passed_none path (Some key) e = absurd cc

same_fault : (f g : DocFault) → ◌≡◌ {A = Result (Unit {0}) DocFault} (Err f) (Err g) → f ≡ g
same_fault f g e = cc

named_one : (path : List ℕ) (r : Option (List ℕ)) (key : List ℕ) → none_unknown path r ≡ Err (record { key = key_path path key; kind = UnknownKey }) → r ≡ Some key
named_one path None key e = absurd cc
named_one path (Some found) key e =
    ap Some (same_key_path path found key (ap (λ f. f.key) (same_fault _ _ e)))

pub only_known_passes : (path known : List ℕ) (ms : Members) → (only_known path known ms ≡ Ok tt) ↔ ((key : List ℕ) → ¬ IsUnknown known ms key)
unfolding only_known
only_known_passes path known ms = (
  λ is. none_is_unknown known ms (passed_none path (unknown_in known ms) is),
  λ none. elim (cases_found (unknown_in known ms)) [
    | inl e ↦ rw e refl
    | inr found ↦ absurd (none found.0 (found_is_unknown known ms found.0 found.1))
  ],
)

pub only_known_names : (path known : List ℕ) (es : Left) → IsStrictlySortedBy string_cmp (keys_of es)
    → (key : List ℕ) → (only_known path known (members_view es) ≡ Err (record { key = key_path path key; kind = UnknownKey })) ↔ IsLeastUnknown known (members_view es) key
unfolding only_known
only_known_names path known es ordered key = (
  λ is. first_is_least known es key ordered (named_one path (unknown_in known (members_view es)) key is),
  λ least. elim (cases_found (unknown_in known (members_view es))) [
    | inl none ↦ absurd (none_is_unknown known (members_view es) none key least.is_one)
    | inr found ↦ rw (found.1, least_is_one known (members_view es) found.0 key (first_is_least known es found.0 ordered found.1) least) refl
  ],
)
