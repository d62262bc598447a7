-- The whole text says its model.
use Rattle.std.proofs.Common.{ℕ, zero, suc, ◌<◌, ◌≤◌, ℤ, pos, List, [], ◌∷◌, codes, refl, arith}
use Rattle.acas_units.specs.declared.limits.TheConstants.{LEAST_RATE, GREATEST_RATE}
use Rattle.toml.specs.Data.{Members}
use Rattle.acas_model.specs.Numbers.{pilot_keys}
use Rattle.acas_model.specs.Text.{HasOnly, HoldsTable, HoldsTables, IsAdvisoryText, IsClosingText, IsCostText, IsDocumentText, IsGridText, IsPilotText, IsPuckText, IsSigmaText}
use Rattle.acas_examples.specs.Parts.{minus}
use Rattle.acas_text_examples.specs.Documents.{clear_keys, closing_keys, cost_keys, delayed_keys, grid_keys, level_keys, prompt_keys, puck_keys, said, said_keys, sigma_keys}
use Rattle.acas_text_examples.proofs.Only.{only}

-- what holds of each of two
of_two : (P : ℕ → Type 0) → P 0 → P 1 → (k : ℕ) → k < 2 → P k
of_two P a b zero h = a
of_two P a b (suc zero) h = b
of_two P a b (suc (suc k)) h = absurd (omega arith)

grid_says : IsGridText said grid_keys
grid_says = record {
  altitude = record { numbers = pos 0 ∷ pos 30 ∷ []; there = refl; same = refl };
  own_rate = record { numbers = pos 0 ∷ pos 600 ∷ []; there = refl; same = refl };
  intruder_rate = record { numbers = minus 300 ∷ pos 300 ∷ []; there = refl; same = refl };
}

puck_says : IsPuckText said (puck_keys (pos 450) (pos 2))
puck_says = record { radius = refl; feet = 2; half_height = refl; half = refl }

closing_says : IsClosingText said (closing_keys (pos 400) (pos 500))
closing_says = record { least = refl; greatest = refl }

cost_says : IsCostText said (cost_keys (pos 7))
cost_says = record { contact = refl }

clear_says : IsAdvisoryText said 0 clear_keys
clear_says = record { name = refl; lo = refl; hi = refl; choices = refl; costs = refl }

level_says : IsAdvisoryText said 1 (level_keys (codes "level") (minus 500) (pos 500))
level_says = record { name = refl; lo = refl; hi = refl; choices = refl; costs = refl }

first_says : IsSigmaText said 0 (sigma_keys (pos 2) (pos 0) (pos 0))
first_says = record { weight = refl; own = refl; intruder = refl }

second_says : IsSigmaText said 1 (sigma_keys (pos 1) (pos 60) (minus 90))
second_says = record { weight = refl; own = refl; intruder = refl }

-- with a pilot of a version
pub document_says : (version : ℕ) (pilot : Members) → 1 ≤ version → version ≤ 2 → HasOnly (pilot_keys version) pilot → IsPilotText said version pilot
    → IsDocumentText said (said_keys (pos version) pilot)
document_says version pilot some few keys pilot_says = record {
  keys = only _ _ (refl, (refl, (refl, (refl, (refl, (refl, (refl, (refl, (refl, tt)))))))));
  version = version;
  says_version = refl;
  least_version = some;
  greatest_version = few;
  horizon = refl;
  grid = record { inner = grid_keys; there = refl; keys = only _ _ (refl, (refl, (refl, tt))); says = grid_says };
  puck = record { inner = puck_keys (pos 450) (pos 2); there = refl; keys = only _ _ (refl, (refl, tt)); says = puck_says };
  closing = record { inner = closing_keys (pos 400) (pos 500); there = refl; keys = only _ _ (refl, (refl, tt)); says = closing_says };
  pilot = record { inner = pilot; there = refl; keys = keys; says = pilot_says };
  cost = record { inner = cost_keys (pos 7); there = refl; keys = only _ _ (refl, tt); says = cost_says };
  advisory = record {
    tables = clear_keys ∷ level_keys (codes "level") (minus 500) (pos 500) ∷ [];
    there = refl;
    long = refl;
    keys = of_two _ (only _ _ (refl, (refl, (refl, (refl, (refl, tt)))))) (only _ _ (refl, (refl, (refl, (refl, (refl, tt))))));
    says = of_two _ clear_says level_says;
  };
  sigma = record {
    tables = sigma_keys (pos 2) (pos 0) (pos 0) ∷ sigma_keys (pos 1) (pos 60) (minus 90) ∷ [];
    there = refl;
    long = refl;
    keys = of_two _ (only _ _ (refl, (refl, (refl, tt)))) (only _ _ (refl, (refl, (refl, tt))));
    says = of_two _ first_says second_says;
  };
}

pub prompt_keys-only : HasOnly (pilot_keys 1) (prompt_keys (pos 480) (pos 960))
prompt_keys-only = only _ _ (refl, (refl, tt))

pub prompt_says : IsPilotText said 1 (prompt_keys (pos 480) (pos 960))
prompt_says = record { pull = refl; limit = refl; no_delay = λ h. refl; delay = λ h. absurd (omega (arith, h)) }

pub delayed_keys-only : HasOnly (pilot_keys 2) (delayed_keys (pos 0))
delayed_keys-only = only _ _ (refl, (refl, (refl, tt)))

pub delayed_says : IsPilotText said 2 (delayed_keys (pos 0))
delayed_says = record { pull = refl; limit = refl; no_delay = λ h. absurd (omega (arith, h)); delay = λ h. refl }
