use Rattle.std.proofs.Common.{◌≡◌, ◌≤◌, ℤ, pos, ◌+ℤ◌, ◌-ℤ◌, ◌*ℤ◌, unsigned_abs, to_z, of_z, w64, arith}
use Rattle.std.proofs.lemmas.Int.{ints, to_z-of_z}
use mir.Val.{SFits}
use Rattle.acas_replay.specs.declared.limits.TheConstants.{GREATEST_ACCELERATION}
use Rattle.acas_replay.specs.declared.second.TheConstants.{LARGEST_ALTITUDE, LARGEST_RATE}
use Rattle.acas_replay.proofs.state.altitude_after.Goals as goal

abbrev w : ℤ → ℤ
w x = to_z w64 (of_z w64 x)

computed : (h r o i : ℤ) → SFits w64 h → SFits w64 r → SFits w64 o → SFits w64 i → unsigned_abs h ≤ LARGEST_ALTITUDE → unsigned_abs r ≤ LARGEST_RATE → unsigned_abs o ≤ unsigned_abs GREATEST_ACCELERATION → unsigned_abs i ≤ unsigned_abs GREATEST_ACCELERATION →
    SFits w64 (w (w (w h +ℤ w (pos 2 *ℤ w r)) +ℤ w i) -ℤ w o) × (w (w (w (w h +ℤ w (pos 2 *ℤ w r)) +ℤ w i) -ℤ w o) ≡ h +ℤ pos 2 *ℤ r +ℤ i -ℤ o)
computed h r o i at_h at_r at_o at_i a b c d =
    let double : SFits w64 (pos 2 *ℤ r) = omega (arith, ints) in
    let two : SFits w64 (h +ℤ pos 2 *ℤ r) = omega (arith, ints) in
    let three : SFits w64 (h +ℤ pos 2 *ℤ r +ℤ i) = omega (arith, ints) in
    let all : SFits w64 (h +ℤ pos 2 *ℤ r +ℤ i -ℤ o) = omega (arith, ints) in
    (simp to_z-of_z all, simp to_z-of_z)

pub overflow_sub-result : goal.overflow_sub-result
overflow_sub-result c = (computed _ _ _ _ c.ranges.altitude c.ranges.rate c.ranges.own c.ranges.intruder c.requires.altitude c.requires.rate c.requires.own c.requires.intruder).0

pub returns : goal.returns
returns c = (computed _ _ _ _ c.ranges.altitude c.ranges.rate c.ranges.own c.ranges.intruder c.requires.altitude c.requires.rate c.requires.own c.requires.intruder).1
