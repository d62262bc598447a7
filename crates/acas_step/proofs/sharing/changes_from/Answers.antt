use Rattle.std.proofs.Common.{◌≡◌, ◌<◌, ℕ, ℤ, pos, length, to_z, of_z, w64, ◌∙◌, arith, rules}
use Rattle.std.proofs.lemmas.Int.{to_z-of_z}
use Rattle.std.proofs.lemmas.List.{length-set}
use Rattle.acas_means.specs.Reach.{change_from}
use Rattle.acas_means.proofs.Written.{each_written}
use Rattle.acas_step.proofs.sharing.changes_from.Goals as goal
use mir.Val.{SFits}

pub loop-advisory-preserved : goal.loop-advisory-preserved
loop-advisory-preserved c =
    let m = c.args.model.now in
    let a = c.loop-advisory.advisory in
    let so_far = c.loop-advisory.invariant in
    let v : ℤ = to_z w64 (of_z w64 c.args.v) in
    let change : ℤ = to_z w64 (of_z w64 c.pilot_change.result) in
    let fits : SFits w64 c.pilot_change.result = search rules in
    let is : change ≡ change_from m v a = to_z-of_z w64 c.pilot_change.result fits ∙ c.pilot_change.ensures in
    let inside : a < length c.loop-advisory.changes = omega (arith, so_far.long, c.advisory_count-advisory-end.ensures.few) in
    record {
      long = length-set c.loop-advisory.changes c.from.result change ∙ so_far.long;
      changes = rw c.from.ensures (each_written (λ (b : ℕ) (z : ℤ). z ≡ change_from m v b) c.loop-advisory.changes a change (pos 0) inside so_far.changes is);
    }
