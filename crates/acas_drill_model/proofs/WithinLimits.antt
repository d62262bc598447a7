-- The model of a drill is within its limits.
use Rattle.std.specs.List.{AllByRecursion}
use Rattle.std.specs.Set.{distinct_count}
use Rattle.std.specs.Str.{bytes_eq}
use Rattle.std.proofs.Common.{◌≡◌, ℕ, ◌+◌, ◌*◌, ◌<◌, ◌≤◌, ℤ, pos, ◌≤ℤ◌, unsigned_abs, IsTrue, List, [], length, map, codes, nat_eq, refl, arith}
use Rattle.std.proofs.lemmas.Bool.Decides.{Decides-eqb}
use Rattle.std.proofs.lemmas.Cmp.{nat_eq_equiv, nat_list_eq_equiv}
use Rattle.std.proofs.lemmas.Int.{ints}
use Rattle.std.proofs.lemmas.Map.Made.{AllPairs-from_IsDistinct, IsDistinct-from_count}
use Rattle.std.proofs.lemmas.Nat.{mul-le}
use Rattle.std.proofs.lemmas.Slice.Eq.{bytes_eq-Decides}
use Rattle.acas_spec.specs.Limits.{AreDistinct, IsAdvisory, IsChoice, IsChoiceList, IsGrid, IsModel, IsSigma, is_name}
use Rattle.acas_spec.specs.Model.{entries}
use Rattle.acas_spec.specs.declared.parts.Advisory.{Advisory}
use Rattle.acas_spec.specs.declared.parts.Choice.{Choice}
use Rattle.acas_spec.proofs.Places.{all_at}
use Rattle.acas_drill_model.specs.DrilledModel.{altitude_steps, asks, changes, costs, drilled_advisories, drilled_choices, drilled_grid, drilled_horizon, drilled_model, drilled_sigmas, intruder_steps, minus, own_steps}
use Rattle.acas_drill_model.proofs.SteppedAxes.{about_zero-axis, about_zero-within, length-about_zero}

-- ---- the grid

-- five factors, each of which is at most so much
entries-le : (layers h v0 v1 : ℕ) → layers ≤ 41 → h ≤ 25 → v0 ≤ 11 → v1 ≤ 11 → layers * (7 * (h * v0 * v1)) ≤ 868175
entries-le layers h v0 v1 few few_h few_v0 few_v1 =
    let rows : h * v0 ≤ 275 = mul-le h v0 25 11 few_h few_v0 in
    let vertices : h * v0 * v1 ≤ 3025 = mul-le (h * v0) v1 275 11 rows few_v1 in
    mul-le layers (7 * (h * v0 * v1)) 41 21175 few (omega (arith, vertices))

pub few_entries : (number : ℕ) → entries (drilled_grid number) ≤ 868175
few_entries number =
    entries-le (drilled_horizon number + 1) _ _ _ (omega arith)
    (omega (arith, length-about_zero 12000 (altitude_steps number)))
    (omega (arith, length-about_zero 500 (own_steps number)))
    (omega (arith, length-about_zero 500 (intruder_steps number)))

grid_within : (number : ℕ) → IsGrid (drilled_grid number)
grid_within number = record {
  altitudes = about_zero-axis 12000 (altitude_steps number) (omega arith) (omega arith) (omega arith);
  own_rates = about_zero-axis 500 (own_steps number) (omega arith) (omega arith) (omega arith);
  intruder_rates = about_zero-axis 500 (intruder_steps number) (omega arith) (omega arith) (omega arith);
  altitudes_within = about_zero-within 1200000 12000 (altitude_steps number) (omega arith);
  own_within = about_zero-within 10000 500 (own_steps number) (omega arith);
  intruder_within = about_zero-within 10000 500 (intruder_steps number) (omega arith);
  some_advisories = omega arith;
  few_advisories = omega arith;
  least_horizon = omega arith;
  horizon = omega arith;
  entries = omega (arith, few_entries number);
}

-- ---- the advisories, what may be chosen, and the sigma points

is_advisory : (name : List ℕ) (lo hi : ℤ) → IsTrue (is_name name) → unsigned_abs lo ≤ 10000 → unsigned_abs hi ≤ 10000 → lo ≤ℤ hi → IsAdvisory (asks name lo hi)
is_advisory name lo hi named low high order = record { name = named; low = omega (arith, ints, low); rising = order; high = omega (arith, ints, high) }

is_choice : (advisory : ℕ) (cost : ℤ) → advisory < 7 → unsigned_abs cost ≤ 8 → IsChoice 7 (costs advisory cost)
is_choice advisory cost inside small = record { advisory = inside; cost = record { low = omega (arith, ints, small); high = omega (arith, ints, small) } }

is_sigma : (weight own intruder : ℤ) → pos 1 ≤ℤ weight → weight ≤ℤ pos 2 → unsigned_abs own ≤ 60 → unsigned_abs intruder ≤ 60 → IsSigma (changes weight own intruder)
is_sigma weight own intruder some most few_own few_intruder = record {
  weight = record { low = some; high = omega (arith, ints, most) };
  own = record { low = omega (arith, ints, few_own); high = omega (arith, ints, few_own) };
  intruder = record { low = omega (arith, ints, few_intruder); high = omega (arith, ints, few_intruder) };
}

-- lists of which as many items are distinct as there are
distinct_names : (names : List (List ℕ)) → distinct_count bytes_eq names ≡ length names → AreDistinct [] names
distinct_names names all = record { apart = λ i j. AllPairs-from_IsDistinct bytes_eq-Decides names (IsDistinct-from_count nat_list_eq_equiv names all) i j [] }

distinct_numbers : (numbers : List ℕ) → distinct_count nat_eq numbers ≡ length numbers → AreDistinct 0 numbers
distinct_numbers numbers all = record { apart = λ i j. AllPairs-from_IsDistinct Decides-eqb numbers (IsDistinct-from_count nat_eq_equiv numbers all) i j 0 }

advisories_within : AllByRecursion IsAdvisory drilled_advisories
advisories_within = (
  is_advisory (codes "clear") (minus 10000) (pos 10000) refl (omega arith) (omega arith) (omega (arith, ints)),
  (
    is_advisory (codes "no-climb") (minus 10000) (pos 0) refl (omega arith) (omega arith) (omega (arith, ints)),
    (
      is_advisory (codes "no-descend") (pos 0) (pos 10000) refl (omega arith) (omega arith) (omega (arith, ints)),
      (
        is_advisory (codes "level") (minus 500) (pos 500) refl (omega arith) (omega arith) (omega (arith, ints)),
        (
          is_advisory (codes "climb") (pos 1500) (pos 10000) refl (omega arith) (omega arith) (omega (arith, ints)),
          (
            is_advisory (codes "descend") (minus 10000) (minus 1500) refl (omega arith) (omega arith) (omega (arith, ints)),
            (is_advisory (codes "climb-fast") (pos 2500) (pos 10000) refl (omega arith) (omega arith) (omega (arith, ints)), tt),
          ),
        ),
      ),
    ),
  ),
)

choices_within : IsChoiceList 7 drilled_choices
choices_within = record {
  some = omega arith;
  each = λ place h. all_at (IsChoice 7) drilled_choices place _ (
    is_choice 0 (pos 0) (omega arith) (omega arith),
    (
      is_choice 1 (pos 1) (omega arith) (omega arith),
      (
        is_choice 2 (pos 1) (omega arith) (omega arith),
        (
          is_choice 3 (pos 2) (omega arith) (omega arith),
          (
            is_choice 4 (pos 5) (omega arith) (omega arith),
            (
              is_choice 5 (pos 5) (omega arith) (omega arith),
              (is_choice 6 (pos 8) (omega arith) (omega arith), tt),
            ),
          ),
        ),
      ),
    ),
  ) h;
  distinct = distinct_numbers (map (λ (c : Choice). c.advisory) drilled_choices) refl;
}

sigmas_within : AllByRecursion IsSigma drilled_sigmas
sigmas_within = (
  is_sigma (pos 2) (pos 0) (pos 0) (omega (arith, ints)) (omega (arith, ints)) (omega arith) (omega arith),
  (
    is_sigma (pos 1) (pos 60) (minus 60) (omega (arith, ints)) (omega (arith, ints)) (omega arith) (omega arith),
    (is_sigma (pos 1) (minus 60) (pos 60) (omega (arith, ints)) (omega (arith, ints)) (omega arith) (omega arith), tt),
  ),
)

-- ---- the model

choice_lists_within : AllByRecursion (IsChoiceList 7) (map (λ (a : Advisory). drilled_choices) drilled_advisories)
choice_lists_within =
    (choices_within, (choices_within, (choices_within, (choices_within, (choices_within, (choices_within, (choices_within, tt)))))))

pub model_within : (number : ℕ) → IsModel (drilled_model number)
model_within number = record {
  grid = grid_within number;
  advisory_count = refl;
  advisories = λ a h. all_at IsAdvisory drilled_advisories a _ advisories_within h;
  names = distinct_names (map (λ (a : Advisory). a.name) drilled_advisories) refl;
  choice_count = refl;
  choices = λ p h. all_at (IsChoiceList 7) (map (λ (a : Advisory). drilled_choices) drilled_advisories) p [] choice_lists_within h;
  some_sigmas = omega arith;
  few_sigmas = omega arith;
  sigmas = λ q h. all_at IsSigma drilled_sigmas q _ sigmas_within h;
  weights = omega arith;
  some_pull = omega arith;
  pull_within = omega arith;
  limit = omega arith;
  delay = omega arith;
  some_radius = omega arith;
  radius = omega arith;
  some_half = omega arith;
  half = omega arith;
  some_closing = omega arith;
  closing = omega arith;
  greatest_closing = omega arith;
  contact = record { low = omega (arith, ints); high = omega (arith, ints) };
  window = omega arith;
}
