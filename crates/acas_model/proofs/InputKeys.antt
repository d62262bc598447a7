-- What the keys hold of a document that passes the shared rules, and what passes them.
use Rattle.std.proofs.Common.{◌≡◌, ℕ, ◌<◌, ℤ, ◌≤ℤ◌, List, [], length, codes, bytes_eq, Some, Ok, refl, sym, subst, ap, ◌∙◌, arith}
use Rattle.std.proofs.lemmas.Int.{ints}
use Rattle.std.proofs.lemmas.List.Quantifiers.{position-Some}
use Rattle.std.proofs.lemmas.Slice.Eq.{bytes_eq-Decides}
use Rattle.toml.specs.Data.{Members, integer, string, get_member}
use Rattle.acas_spec.specs.Model.{ModelData, advisory_at as advisory_of}
use Rattle.acas_spec.specs.Limits.{IsModel}
use Rattle.acas_spec.proofs.Each.{bind_ok}
use Rattle.acas_doc.specs.Keys.{text_at}
use Rattle.acas_doc.proofs.Holds.{or_fault_ok, fault_as_ok, text_at_ok, text_at_passes, whole_at_ok, whole_at_passes}
use Rattle.acas_doc.specs.declared.input.TheConstants.{INPUT_VERSION}
use Rattle.acas_doc.specs.declared.input_fault.InputFault.TheVariants.{UnknownName}
use Rattle.acas_doc.specs.Input.{in_doc, version_of}
use Rattle.acas_model.specs.Choices.{named}
use Rattle.acas_model.specs.Named.{advisory_at}
use Rattle.acas_model.proofs.PassLists.{named_is}
use Rattle.acas_model.proofs.ReadAdvisories.{no_advisory}

-- ---- the version

pub version_ok : (doc : Members) (z : ℤ) → version_of doc ≡ Ok z → get_member (codes "version") doc ≡ Some (integer INPUT_VERSION)
unfolding version_of
version_ok doc z e =
    let w = whole_at_ok doc [] (codes "version") INPUT_VERSION INPUT_VERSION z (fault_as_ok _ _ z e) in
    subst (λ (v : ℤ). get_member (codes "version") doc ≡ Some (integer v)) (one z w.1 w.2) w.0
  where
    one : (v : ℤ) → INPUT_VERSION ≤ℤ v → v ≤ℤ INPUT_VERSION → v ≡ INPUT_VERSION
    one v low high = omega (arith, ints)

pub version_passes : (doc : Members) → get_member (codes "version") doc ≡ Some (integer INPUT_VERSION) → version_of doc ≡ Ok INPUT_VERSION
unfolding version_of
version_passes doc holds = rw (whole_at_passes doc [] (codes "version") INPUT_VERSION INPUT_VERSION INPUT_VERSION holds same same) refl
  where
    same : INPUT_VERSION ≤ℤ INPUT_VERSION
    same = omega (arith, ints)

-- ---- the advisory

-- an advisory that was read
pub record IsReadAdvisory (m : ModelData) (table : Members) (a : ℕ) : Type 0 where
  pub there : get_member (codes "advisory") table ≡ Some (string (advisory_of m a).name)
  pub known : a < length m.advisories

pub advisory_ok : (m : ModelData) (table : Members) (path : List ℕ) (place a : ℕ) → advisory_at m table path place ≡ Ok a → IsReadAdvisory m table a
unfolding advisory_at
advisory_ok m table path place a e =
    let t = bind_ok (in_doc (text_at table path (codes "advisory"))) _ a e in
    let found = position-Some (λ b. bytes_eq b.name t.0) m.advisories a no_advisory (or_fault_ok (UnknownName place) (named m.advisories t.0) a t.2) in
    let name : (advisory_of m a).name ≡ t.0 = (bytes_eq-Decides _ _).0 found.1 in
    record {
      there = text_at_ok table path (codes "advisory") t.0 (fault_as_ok _ _ t.0 t.1) ∙ ap (λ (s : List ℕ). Some (string s)) (sym name);
      known = found.0;
    }

pub advisory_passes : (m : ModelData) (table : Members) (path : List ℕ) (place a : ℕ) → IsModel m → IsReadAdvisory m table a → advisory_at m table path place ≡ Ok a
unfolding advisory_at
advisory_passes m table path place a valid is =
    rw (text_at_passes table path (codes "advisory") (advisory_of m a).name is.there, named_is m valid a is.known) refl
