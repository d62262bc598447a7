use Rattle.std.proofs.Common.{arith}
use Rattle.std.proofs.lemmas.Grind.{common_steps}
use Rattle.acas_accept.proofs.check.TableCheck.new.Goals as goal

pub returns-clause-check : goal.returns-clause-check
returns-clause-check c =
    record {
      valid = grind (arith, common_steps);
      shape = c.requires.shape;
      given = omega (arith, c.requires.given);
      no_fault = c.requires.no_fault;
      not_done = c.requires.not_done;
      pairs = grind (arith, common_steps);
      advice = grind (arith, common_steps);
      means = grind (arith, common_steps);
      leasts = c.in_ok-leasts.ensures c.in_ok-means.means.items;
      allowed = record { each = λ s some none. absurd (omega (arith, none)) };
    }
