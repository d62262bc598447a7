use Rattle.std.proofs.Common.{ℤ, pos, ◌-ℤ◌, arith}
use Rattle.std.proofs.lemmas.Int.{ints, int_max_is}
use Rattle.acas_flight.specs.State.{IsSecondsAway}
use Rattle.acas_flight.specs.Contact.{IsHorizontalContact}
use Rattle.acas_flight_examples.specs.Flown.{small}
use Rattle.acas_flight_examples.proofs.windows.other_times_are_no_windows.Goals as goal

-- at 1 s the range of 750 ft at 250 ft/s, and at 6 s the range of 1000 ft at 250 ft/s
pub returns-clause-short : goal.returns-clause-short
returns-clause-short c w =
    let during = (w.exact 1 6 (omega arith)).1 (pos 1000, pos 250, record { ahead = omega (arith, ints); speed = (omega (arith, ints), omega (arith, ints)); not_before = omega (arith, ints); not_after = omega (arith, ints) }, omega arith) in
    omega (arith, ints, during.1)

pub returns-clause-late : goal.returns-clause-late
returns-clause-late c w =
    let during = (w.exact 1 1 (omega arith)).1 (pos 750, pos 250, record { ahead = omega (arith, ints); speed = (omega (arith, ints), omega (arith, ints)); not_before = omega (arith, ints); not_after = omega (arith, ints) }, omega arith) in
    omega (arith, ints, during.0)

apart : (range closing : ℤ) → IsSecondsAway small 1 1 range closing → IsHorizontalContact 500 1 range closing 7 → ⊥
apart range closing away near = omega (arith, ints, int_max_is (pos 0) (range -ℤ pos 500), away.not_after, away.speed.0)

pub returns-clause-long : goal.returns-clause-long
returns-clause-long c w =
    let e = (w.exact 1 7 (omega arith)).0 (omega (arith, ints), omega (arith, ints)) in apart e.0 e.1 e.2 e.3
