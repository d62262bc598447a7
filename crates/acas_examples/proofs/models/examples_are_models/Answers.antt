use Rattle.std.proofs.Common.{ℕ, ◌<◌, ◌≤◌, pos, [], ◌∷◌, codes, arith, refl}
use Rattle.std.proofs.lemmas.Int.{ints}
use Rattle.acas_units.specs.declared.limits.TheConstants.{LEAST_RATE, GREATEST_RATE}
use Rattle.acas_spec.specs.Limits.{IsAdvisory, IsChoiceList, IsGrid, IsModel, IsSigma}
use Rattle.acas_spec.proofs.Places.{all_at}
use Rattle.acas_examples.specs.Models.{all_four, ends_at, four_advisories}
use Rattle.acas_examples.specs.Parts.{choice, gusts, minus, no_noise, three_noises}
use Rattle.acas_examples.proofs.WithinLimits.{differ, distinct_of, gusts_are, is_choice, is_clear, is_level, is_list, is_model, is_nearly_level, is_only, no_noise_is, rises_of, three_noises_are, within_of}
use Rattle.acas_examples.proofs.models.examples_are_models.Goals as goal

free : IsChoiceList 2 (choice 0 (pos 0) ∷ [])
free = is_only 0 (pos 0) (omega arith) (omega arith)

pub returns-clause-noisy : goal.returns-clause-noisy
returns-clause-noisy c = is_model 3600 2 (pos 1) (minus 500) (pos 500) _ _ three_noises (omega arith) (omega arith) (omega arith) (omega arith) is_nearly_level free free three_noises_are

pub returns-clause-tied : goal.returns-clause-tied
returns-clause-tied c =
    is_model 3600 2 (pos 1) LEAST_RATE GREATEST_RATE _ _ three_noises (omega arith) (omega arith) (omega arith) (omega arith)
    (is_level LEAST_RATE GREATEST_RATE (omega (arith, ints)) (omega (arith, ints)) (omega (arith, ints)))
    (is_list 2 (choice 1 (pos 0) ∷ choice 0 (pos 0) ∷ []) (omega arith) (is_choice 2 1 (pos 0) (omega arith) (omega arith), (is_choice 2 0 (pos 0) (omega arith) (omega arith), tt)) ((λ e. omega (arith, e), tt), (tt, tt)))
    free three_noises_are

pub returns-clause-calm : goal.returns-clause-calm
returns-clause-calm c =
    let one = is_only 0 (pos 1) (omega arith) (omega arith) in
    is_model 1200 1 (pos 7) (minus 500) (pos 500) _ _ no_noise (omega arith) (omega arith) (omega arith) (omega arith) is_nearly_level one one no_noise_is

pub returns-clause-switching : goal.returns-clause-switching
returns-clause-switching c =
    is_model 1200 2 (pos 7) (minus 500) (pos 500) _ _ no_noise (omega arith) (omega arith) (omega arith) (omega arith) is_nearly_level
    (is_only 1 (pos 3) (omega arith) (omega arith)) (is_only 0 (pos 5) (omega arith) (omega arith)) no_noise_is

pub returns-clause-levelling : goal.returns-clause-levelling
returns-clause-levelling c =
    is_model 1200 3 (pos 7) (minus 500) (pos 500) _ _ no_noise (omega arith) (omega arith) (omega arith) (omega arith) is_nearly_level
    (is_list 2 (choice 0 (pos 0) ∷ choice 1 (pos 3) ∷ []) (omega arith) (is_choice 2 0 (pos 0) (omega arith) (omega arith), (is_choice 2 1 (pos 3) (omega arith) (omega arith), tt)) ((λ e. omega (arith, e), tt), (tt, tt)))
    (is_only 0 (pos 5) (omega arith) (omega arith)) no_noise_is

pub returns-clause-evading : goal.returns-clause-evading
returns-clause-evading c =
    is_model 1200 1 (pos 7) (minus 1000) (minus 600) _ _ no_noise (omega arith) (omega arith) (omega arith) (omega arith)
    (is_level (minus 1000) (minus 600) (omega (arith, ints)) (omega (arith, ints)) (omega (arith, ints)))
    (is_list 2 (choice 0 (pos 0) ∷ choice 1 (pos 1) ∷ []) (omega arith) (is_choice 2 0 (pos 0) (omega arith) (omega arith), (is_choice 2 1 (pos 1) (omega arith) (omega arith), tt)) ((λ e. omega (arith, e), tt), (tt, tt)))
    free no_noise_is

pub returns-clause-gusty : goal.returns-clause-gusty
returns-clause-gusty c = is_model 3600 1 (pos 1) (minus 500) (pos 500) _ _ gusts (omega arith) (omega arith) (omega arith) (omega arith) is_nearly_level free free gusts_are

pub returns-clause-small_climb : goal.returns-clause-small_climb
returns-clause-small_climb c =
    is_model 3600 1 (pos 1) (pos 900) (pos 1000) _ _ no_noise (omega arith) (omega arith) (omega arith) (omega arith)
    (is_level (pos 900) (pos 1000) (omega (arith, ints)) (omega (arith, ints)) (omega (arith, ints))) free free no_noise_is

ends_at-is : (ticks : ℕ) → 0 < ticks → ticks ≤ 3600 → IsModel (ends_at ticks)
ends_at-is ticks some most = is_model ticks 0 (pos 7) (minus 500) (pos 500) _ _ no_noise some most (omega arith) (omega arith) is_nearly_level free free no_noise_is

pub returns-clause-at_edge : goal.returns-clause-at_edge
returns-clause-at_edge c = ends_at-is 120 (omega arith) (omega arith)

pub returns-clause-past_edge : goal.returns-clause-past_edge
returns-clause-past_edge c = ends_at-is 121 (omega arith) (omega arith)

pub returns-clause-at_radius : goal.returns-clause-at_radius
returns-clause-at_radius c = ends_at-is 500 (omega arith) (omega arith)

four_grid : IsGrid four_advisories.grid
four_grid = record {
  altitudes = record {
    at_least = omega arith;
    at_most = omega arith;
    rising = rises_of (minus 120_000) (minus 80_400 ∷ pos 0 ∷ pos 120_000 ∷ []) (omega (arith, ints), (omega (arith, ints), (omega (arith, ints), tt)));
  };
  own_rates = record {
    at_least = omega arith;
    at_most = omega arith;
    rising = rises_of (pos 0) (pos 1500 ∷ pos 3000 ∷ []) (omega (arith, ints), (omega (arith, ints), tt));
  };
  intruder_rates = record {
    at_least = omega arith;
    at_most = omega arith;
    rising = rises_of (pos 0) (pos 3000 ∷ []) (omega (arith, ints), tt);
  };
  altitudes_within = within_of _ _ four_advisories.grid.h (record { low = omega (arith, ints); high = omega (arith, ints) }, (record { low = omega (arith, ints); high = omega (arith, ints) }, (record { low = omega (arith, ints); high = omega (arith, ints) }, (record { low = omega (arith, ints); high = omega (arith, ints) }, tt))));
  own_within = within_of _ _ four_advisories.grid.v0 (record { low = omega (arith, ints); high = omega (arith, ints) }, (record { low = omega (arith, ints); high = omega (arith, ints) }, (record { low = omega (arith, ints); high = omega (arith, ints) }, tt)));
  intruder_within = within_of _ _ four_advisories.grid.v1 (record { low = omega (arith, ints); high = omega (arith, ints) }, (record { low = omega (arith, ints); high = omega (arith, ints) }, tt));
  some_advisories = omega arith;
  few_advisories = omega arith;
  least_horizon = omega arith;
  horizon = omega arith;
  entries = omega arith;
}

four_choices : IsChoiceList 4 all_four
four_choices =
    is_list 4 all_four (omega arith) (
      is_choice 4 0 (pos 0) (omega arith) (omega arith),
      (is_choice 4 1 (pos 1) (omega arith) (omega arith), (is_choice 4 2 (pos 1) (omega arith) (omega arith), (is_choice 4 3 (pos 1) (omega arith) (omega arith), tt))),
    ) (
      (λ e. omega (arith, e), (λ e. omega (arith, e), (λ e. omega (arith, e), tt))),
      ((λ e. omega (arith, e), (λ e. omega (arith, e), tt)), ((λ e. omega (arith, e), tt), (tt, tt))),
    )

pub returns-clause-four : goal.returns-clause-four
returns-clause-four c = record {
  grid = four_grid;
  advisory_count = refl;
  advisories = λ a h. all_at IsAdvisory four_advisories.advisories a _ (
    is_clear,
    (
      record { name = refl; low = omega (arith, ints); rising = omega (arith, ints); high = omega (arith, ints) },
      (record { name = refl; low = omega (arith, ints); rising = omega (arith, ints); high = omega (arith, ints) }, (is_nearly_level, tt)),
    ),
  ) h;
  names = distinct_of (codes "clear" ∷ codes "climb" ∷ codes "descend" ∷ codes "level" ∷ []) [] (
    (differ _ _ 2 (λ e. omega (arith, e)), (differ _ _ 0 (λ e. omega (arith, e)), (differ _ _ 0 (λ e. omega (arith, e)), tt))),
    ((differ _ _ 0 (λ e. omega (arith, e)), (differ _ _ 0 (λ e. omega (arith, e)), tt)), ((differ _ _ 0 (λ e. omega (arith, e)), tt), (tt, tt))),
  );
  choice_count = refl;
  choices = λ p h. all_at (IsChoiceList 4) four_advisories.choices p [] (four_choices, (four_choices, (four_choices, (four_choices, tt)))) h;
  some_sigmas = no_noise_is.some;
  few_sigmas = omega arith;
  sigmas = λ q h. all_at IsSigma no_noise q _ no_noise_is.each h;
  weights = omega arith;
  some_pull = omega arith;
  pull_within = omega arith;
  limit = omega arith;
  delay = omega arith;
  some_radius = omega arith;
  radius = omega arith;
  some_half = omega arith;
  half = omega arith;
  some_closing = omega arith;
  closing = omega arith;
  greatest_closing = omega arith;
  contact = record { low = omega (arith, ints); high = omega (arith, ints) };
  window = omega arith;
}
