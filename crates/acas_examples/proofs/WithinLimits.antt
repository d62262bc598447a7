-- What makes a model of parts that are written out one within its limits.
use Rattle.std.specs.List.{AllByRecursion}
use Rattle.std.proofs.Common.{◌≡◌, ◌≢◌, ℕ, zero, suc, ◌+◌, ◌<◌, ◌≤◌, ℤ, pos, ◌+ℤ◌, ◌<ℤ◌, ◌≤ℤ◌, unsigned_abs, List, [], ◌∷◌, length, get_or, sum_by, codes, arith, ap, refl, subst}
use Rattle.std.proofs.lemmas.Int.{ints}
use Rattle.acas_units.specs.declared.limits.TheConstants.{LEAST_RATE, GREATEST_RATE}
use Rattle.acas_spec.specs.Axis.{IsAxis, IsBetween, IsWithin, Rises, place_value}
use Rattle.acas_spec.specs.Limits.{AreDistinct, IsAdvisory, IsChoice, IsChoiceList, IsGrid, IsModel, IsSigma}
use Rattle.acas_spec.specs.Model.{weight_of}
use Rattle.acas_spec.specs.declared.parts.Choice.{Choice}
use Rattle.acas_spec.specs.declared.parts.SigmaPoint.{SigmaPoint}
use Rattle.acas_process.specs.Cost.{advisories_of}
use Rattle.acas_spec.proofs.Places.{all_at}
use Rattle.acas_examples.specs.Models.{two_altitudes}
use Rattle.acas_examples.specs.Parts.{choice, clear, gusts, level, minus, nearly_level, no_noise, sigma, three_noises}

-- ---- lists

-- each number is above the one before it, by recursion
abbrev pub IsRisingFrom : ℤ → List ℤ → Type 0
IsRisingFrom a [] = Unit {0}
IsRisingFrom a (b ∷ rest) = (a <ℤ b) × IsRisingFrom b rest

rises_at : (a : ℤ) (rest : List ℤ) → IsRisingFrom a rest → (k : ℕ) → k < length rest → place_value (a ∷ rest) k <ℤ place_value rest k
rises_at a [] r k h = absurd (omega arith)
rises_at a (b ∷ rest) r zero h = r.0
rises_at a (b ∷ rest) r (suc k) h = rises_at b rest r.1 k (omega arith)

pub rises_of : (a : ℤ) (rest : List ℤ) → IsRisingFrom a rest → Rises (a ∷ rest)
unfolding Rises
rises_of a rest r place h =
    let e : suc place ≡ place + 1 = omega arith in
    subst (λ (k : ℕ). place_value (a ∷ rest) place <ℤ place_value (a ∷ rest) k) e (rises_at a rest r place (omega arith))

pub within_of : (least greatest : ℤ) (axis : List ℤ) → AllByRecursion (IsBetween least greatest) axis → IsWithin least greatest axis
within_of least greatest axis all = record { bounded = λ place h. all_at (IsBetween least greatest) axis place (pos 0) all h }

-- each item differs from those behind it, by recursion
abbrev pub AreApart : {A : Type 0} → List A → Type 0
AreApart [] = Unit {0}
AreApart (x ∷ xs) = AllByRecursion (λ y. x ≢ y) xs × AreApart xs

apart_at : {A : Type 0} (xs : List A) (d : A) → AreApart xs → (i j : ℕ) → i < j → j < length xs → get_or xs i d ≢ get_or xs j d
apart_at [] d a i j h k = absurd (omega arith)
apart_at (x ∷ xs) d a i zero h k = absurd (omega arith)
apart_at (x ∷ xs) d a zero (suc j) h k = all_at (λ y. x ≢ y) xs j d a.0 (omega arith)
apart_at (x ∷ xs) d a (suc i) (suc j) h k = apart_at xs d a.1 i j (omega arith) (omega arith)

pub distinct_of : {A : Type 0} (xs : List A) (d : A) → AreApart xs → AreDistinct d xs
distinct_of xs d a = record { apart = apart_at xs d a }

-- two lists differ where they do at a place
pub differ : (xs ys : List ℕ) (k : ℕ) → get_or xs k 0 ≢ get_or ys k 0 → xs ≢ ys
differ xs ys k h e = h (ap (λ (zs : List ℕ). get_or zs k 0) e)

-- ---- parts

pub is_clear : IsAdvisory clear
is_clear = record { name = refl; low = omega (arith, ints); rising = omega (arith, ints); high = omega (arith, ints) }

pub is_level : (lo hi : ℤ) → pos 0 ≤ℤ (lo +ℤ pos 10_000) → lo ≤ℤ hi → hi ≤ℤ pos 10_000 → IsAdvisory (level lo hi)
is_level lo hi low order high = record { name = refl; low = omega (arith, ints); rising = order; high = omega (arith, ints) }

pub is_nearly_level : IsAdvisory nearly_level
is_nearly_level = is_level (minus 500) (pos 500) (omega (arith, ints)) (omega (arith, ints)) (omega (arith, ints))

-- few sigma points of small weights
pub record IsNoise (sigmas : List SigmaPoint) : Type 0 where
  pub some : 1 ≤ length sigmas
  pub few : length sigmas ≤ 3
  pub each : AllByRecursion IsSigma sigmas
  pub weights : sum_by weight_of sigmas ≤ 4

is_sigma : (weight own intruder : ℤ) → (pos 1 ≤ℤ weight) × (weight ≤ℤ pos 3) → (unsigned_abs own ≤ 600) × (unsigned_abs intruder ≤ 600) → IsSigma (sigma weight own intruder)
is_sigma weight own intruder h k = record {
  weight = record { low = omega (arith, ints, h.0); high = omega (arith, ints, h.1) };
  own = record { low = omega (arith, ints, k.0); high = omega (arith, ints, k.0) };
  intruder = record { low = omega (arith, ints, k.1); high = omega (arith, ints, k.1) };
}

pub no_noise_is : IsNoise no_noise
no_noise_is = record {
  some = omega arith;
  few = omega arith;
  each = (is_sigma (pos 1) (pos 0) (pos 0) (omega (arith, ints), omega (arith, ints)) (omega arith, omega arith), tt);
  weights = omega arith;
}

pub three_noises_are : IsNoise three_noises
three_noises_are = record {
  some = omega arith;
  few = omega arith;
  each = (
    is_sigma (pos 1) (pos 0) (pos 0) (omega (arith, ints), omega (arith, ints)) (omega arith, omega arith),
    (
      is_sigma (pos 1) (pos 0) (pos 600) (omega (arith, ints), omega (arith, ints)) (omega arith, omega arith),
      (is_sigma (pos 1) (pos 0) (minus 600) (omega (arith, ints), omega (arith, ints)) (omega arith, omega arith), tt),
    ),
  );
  weights = omega arith;
}

pub gusts_are : IsNoise gusts
gusts_are = record {
  some = omega arith;
  few = omega arith;
  each = (
    is_sigma (pos 1) (pos 0) (pos 0) (omega (arith, ints), omega (arith, ints)) (omega arith, omega arith),
    (is_sigma (pos 3) (pos 60) (minus 60) (omega (arith, ints), omega (arith, ints)) (omega arith, omega arith), tt),
  );
  weights = omega arith;
}

pub is_choice : (count advisory : ℕ) (cost : ℤ) → advisory < count → unsigned_abs cost ≤ 5 → IsChoice count (choice advisory cost)
is_choice count advisory cost inside small = record { advisory = inside; cost = record { low = omega (arith, ints); high = omega (arith, ints) } }

pub is_list : (count : ℕ) (choices : List Choice) → 0 < length choices → AllByRecursion (IsChoice count) choices → AreApart (advisories_of choices) → IsChoiceList count choices
is_list count choices some each apart = record {
  some = some;
  each = λ place h. all_at (IsChoice count) choices place _ each h;
  distinct = distinct_of (advisories_of choices) 0 apart;
}

pub is_only : (advisory : ℕ) (cost : ℤ) → advisory < 2 → unsigned_abs cost ≤ 5 → IsChoiceList 2 (choice advisory cost ∷ [])
is_only advisory cost inside small = is_list 2 (choice advisory cost ∷ []) (omega arith) (is_choice 2 advisory cost inside small, tt) (tt, tt)

-- ---- models of two altitudes

two_rates : IsAxis (pos 0 ∷ pos 600 ∷ [])
two_rates = record { at_least = omega arith; at_most = omega arith; rising = rises_of (pos 0) (pos 600 ∷ []) (omega (arith, ints), tt) }

rates_within : IsWithin LEAST_RATE GREATEST_RATE (pos 0 ∷ pos 600 ∷ [])
rates_within =
    within_of LEAST_RATE GREATEST_RATE (pos 0 ∷ pos 600 ∷ []) (
      record { low = omega (arith, ints); high = omega (arith, ints) },
      (record { low = omega (arith, ints); high = omega (arith, ints) }, tt),
    )

two_altitudes_grid : (ticks horizon : ℕ) → 0 < ticks → ticks ≤ 3600 → horizon ≤ 3 →
    IsGrid (record { h = pos 0 ∷ pos ticks ∷ []; v0 = pos 0 ∷ pos 600 ∷ []; v1 = pos 0 ∷ pos 600 ∷ []; advisories = 2; horizon = horizon })
two_altitudes_grid ticks horizon some most last = record {
  altitudes = record { at_least = omega arith; at_most = omega arith; rising = rises_of (pos 0) (pos ticks ∷ []) (omega (arith, ints), tt) };
  own_rates = two_rates;
  intruder_rates = two_rates;
  altitudes_within = within_of _ _ (pos 0 ∷ pos ticks ∷ []) (
    record { low = omega (arith, ints); high = omega (arith, ints) },
    (record { low = omega (arith, ints); high = omega (arith, ints) }, tt),
  );
  own_within = rates_within;
  intruder_within = rates_within;
  some_advisories = omega arith;
  few_advisories = omega arith;
  least_horizon = omega arith;
  horizon = omega arith;
  entries = omega arith;
}

pub is_model : (ticks horizon : ℕ) (contact lo hi : ℤ) (under_clear under_level : List Choice) (sigmas : List SigmaPoint) → 0 < ticks → ticks ≤ 3600 → horizon ≤ 3 → unsigned_abs contact ≤ 7 →
    IsAdvisory (level lo hi) → IsChoiceList 2 under_clear → IsChoiceList 2 under_level → IsNoise sigmas →
    IsModel (two_altitudes (pos ticks) horizon contact (level lo hi) (under_clear ∷ under_level ∷ []) sigmas)
is_model ticks horizon contact lo hi under_clear under_level sigmas some most last small second first_list second_list noise = record {
  grid = two_altitudes_grid ticks horizon some most last;
  advisory_count = refl;
  advisories = λ a h. all_at IsAdvisory (clear ∷ level lo hi ∷ []) a _ (is_clear, (second, tt)) h;
  names = distinct_of (codes "clear" ∷ codes "level" ∷ []) [] ((differ (codes "clear") (codes "level") 0 (λ e. omega (arith, e)), tt), (tt, tt));
  choice_count = refl;
  choices = λ p h. all_at (IsChoiceList 2) (under_clear ∷ under_level ∷ []) p [] (first_list, (second_list, tt)) h;
  some_sigmas = noise.some;
  few_sigmas = omega (arith, noise.few);
  sigmas = λ q h. all_at IsSigma sigmas q _ noise.each h;
  weights = omega (arith, noise.weights);
  some_pull = omega arith;
  pull_within = omega arith;
  limit = omega arith;
  delay = omega arith;
  some_radius = omega arith;
  radius = omega arith;
  some_half = omega arith;
  half = omega arith;
  some_closing = omega arith;
  closing = omega arith;
  greatest_closing = omega arith;
  contact = record { low = omega (arith, ints); high = omega (arith, ints) };
  window = omega arith;
}
