use Rattle.std.proofs.Common.{◌≡◌, length, refl, rules, arith}
use Rattle.acas_replay.specs.Whole.{encounter_in}
use Rattle.acas_replay.proofs.Read.{accelerations_ok, start_ok}
use Rattle.acas_replay.proofs.whole.encounter_in.Goals as goal

pub new-requires : goal.new-requires
new-requires c =
    let start = start_ok _ _ _ c.in_ok-start.ensures.value in
    let own = accelerations_ok _ _ _ _ _ c.in_ok-own.ensures.value in
    let intruder = accelerations_ok _ _ _ _ _ c.in_ok-intruder.ensures.value in
    let count : c.len-seconds.result ≡ length c.in_ok-own.own.items = search rules in
    record {
      start = start.fits;
      some = own.some;
      few = own.few;
      paired = omega (arith, count, intruder.some, intruder.few);
      own = own.within;
      intruder = intruder.within;
    }

pub returns-clause-value : goal.returns-clause-value
unfolding encounter_in
returns-clause-value c =
    let count : c.len-seconds.result ≡ length c.in_ok-own.own.items = search rules in
    rw (c.in_ok-only_keys.ensures, c.in_ok-version_of.ensures, c.in_ok-start.ensures.value, c.in_ok-own.ensures.value, ← count, c.in_ok-intruder.ensures.value, c.new.ensures) refl
