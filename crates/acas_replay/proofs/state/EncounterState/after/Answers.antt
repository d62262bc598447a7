use Rattle.std.proofs.Common.{◌∙◌, refl, unsigned_abs, arith}
use Rattle.std.proofs.lemmas.Int.{ints}
use Rattle.acas_units.specs.declared.limits.TheConstants.{GREATEST_CLOSING, GREATEST_SECONDS}
use Rattle.acas_replay.specs.declared.limits.TheConstants.{GREATEST_ACCELERATION}
use Rattle.acas_replay.specs.declared.second.TheConstants.{LARGEST_RANGE}
use Rattle.acas_replay.specs.Flown.{altitude_size, rate_size}
use Rattle.acas_replay.proofs.Bounds.{reached_next}
use Rattle.acas_replay.proofs.Casts.{fits, whole, whole_difference, whole_sum}
use Rattle.acas_replay.proofs.state.EncounterState.after.Goals as goal

pub returns-clause-value : goal.returns-clause-value
returns-clause-value c =
    let s = c.args.self.now in
    let reached = c.requires.reached in
    let own = whole c.args.own (unsigned_abs GREATEST_ACCELERATION) c.requires.own (omega arith) in
    let intruder = whole c.args.intruder (unsigned_abs GREATEST_ACCELERATION) c.requires.intruder (omega arith) in
    let rate = whole_difference s.point.v1 s.point.v0 (rate_size GREATEST_SECONDS) (rate_size GREATEST_SECONDS) reached.intruder reached.own (omega arith) in
    let altitude = whole s.point.h (altitude_size GREATEST_SECONDS) reached.altitude (omega arith) in
    rw (
      whole_difference s.range s.closing LARGEST_RANGE GREATEST_CLOSING (omega (arith, ints, reached.behind, reached.ahead)) (omega (arith, ints, reached.some_closing, reached.closing)) (omega arith),
      whole s.closing GREATEST_CLOSING (omega (arith, ints, reached.some_closing, reached.closing)) (omega arith),
      fits c.altitude_after.result c.altitude_after.type_inv ∙ rw (altitude, rate, own, intruder) at c.altitude_after.ensures,
      whole_sum s.point.v0 c.args.own (rate_size GREATEST_SECONDS) (unsigned_abs GREATEST_ACCELERATION) reached.own c.requires.own (omega arith),
      whole_sum s.point.v1 c.args.intruder (rate_size GREATEST_SECONDS) (unsigned_abs GREATEST_ACCELERATION) reached.intruder c.requires.intruder (omega arith),
    ) refl

pub returns-clause-reached : goal.returns-clause-reached
returns-clause-reached c = λ k reached.
    rw (returns-clause-value c) (reached_next k c.args.self.now c.args.advice c.args.own c.args.intruder reached c.requires.own c.requires.intruder)
