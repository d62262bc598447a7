use Rattle.std.proofs.Common.{refl, unsigned_abs, arith}
use Rattle.std.proofs.lemmas.Int.{ints}
use Rattle.acas_units.specs.declared.limits.TheConstants.{GREATEST_CLOSING, GREATEST_SECONDS}
use Rattle.acas_replay.specs.declared.limits.TheConstants.{GREATEST_ACCELERATION}
use Rattle.acas_replay.specs.declared.second.TheConstants.{LARGEST_RANGE}
use Rattle.acas_replay.specs.Flown.{altitude_size, rate_size}
use Rattle.acas_replay.proofs.Casts.{whole, whole_difference}
use Rattle.acas_replay.proofs.state.EncounterState.second.Goals as goal

pub returns-clause-value : goal.returns-clause-value
returns-clause-value c =
    let s = c.args.self.now in
    let reached = c.requires.reached in
    rw (
      whole s.range LARGEST_RANGE (omega (arith, ints, reached.behind, reached.ahead)) (omega arith),
      whole s.closing GREATEST_CLOSING (omega (arith, ints, reached.some_closing, reached.closing)) (omega arith),
      whole s.point.h (altitude_size GREATEST_SECONDS) reached.altitude (omega arith),
      whole_difference s.point.v1 s.point.v0 (rate_size GREATEST_SECONDS) (rate_size GREATEST_SECONDS) reached.intruder reached.own (omega arith),
      whole_difference c.args.intruder c.args.own (unsigned_abs GREATEST_ACCELERATION) (unsigned_abs GREATEST_ACCELERATION) c.requires.intruder c.requires.own (omega arith),
    ) refl
