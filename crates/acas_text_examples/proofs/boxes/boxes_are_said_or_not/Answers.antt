use Rattle.std.proofs.Common.{pos, refl, arith}
use Rattle.std.proofs.lemmas.Int.{ints}
use Rattle.acas_text_examples.specs.Boxes.{between}
use Rattle.acas_text_examples.proofs.boxes.boxes_are_said_or_not.Goals as goal

pub returns-clause-altitudes : goal.returns-clause-altitudes
returns-clause-altitudes c = record {
  feet = between (pos 10) (pos 20);
  holds = record { there = refl; low = omega (arith, ints); ordered = omega (arith, ints); high = omega (arith, ints) };
  ticks = refl;
}

pub returns-clause-whole : goal.returns-clause-whole
returns-clause-whole c = record {
  advisory = refl;
  range = record { there = refl; low = omega (arith, ints); ordered = omega (arith, ints); high = omega (arith, ints) };
  closing = record { there = refl; low = omega (arith, ints); ordered = omega (arith, ints); high = omega (arith, ints) };
  altitude = record {
    feet = between (pos 10) (pos 20);
    holds = record { there = refl; low = omega (arith, ints); ordered = omega (arith, ints); high = omega (arith, ints) };
    ticks = refl;
  };
  own = record { there = refl; low = omega (arith, ints); ordered = omega (arith, ints); high = omega (arith, ints) };
  intruder = record { there = refl; low = omega (arith, ints); ordered = omega (arith, ints); high = omega (arith, ints) };
}
