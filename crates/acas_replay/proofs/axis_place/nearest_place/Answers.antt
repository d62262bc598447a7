use Rattle.std.proofs.Common.{◌≡◌, ◌∙◌, ap₂, refl, unsigned_abs, ◌-ℤ◌, ℤ, w64, to_z, of_z, rules}
use Rattle.std.proofs.lemmas.Int.{to_z-of_z}
use mir.Val.{SFits}
use Rattle.acas_process.proofs.CellLaws.{cell_holds}
use Rattle.acas_process.specs.Axis.{distance}
use Rattle.acas_replay.proofs.Nearest.{nearest-lower, nearest-upper}
use Rattle.acas_replay.proofs.axis_place.nearest_place.Goals as goal

-- the distance that is computed
computed : (a b x y : ℤ) (n : _) → n ≡ unsigned_abs (to_z w64 (of_z w64 a) -ℤ to_z w64 (of_z w64 b)) → SFits w64 a → SFits w64 b → a ≡ x → b ≡ y → n ≡ distance y x
computed a b x y n e f g p q = e ∙ ap₂ (λ (u : ℤ) (v : ℤ). unsigned_abs (u -ℤ v)) (to_z-of_z w64 a f ∙ p) (to_z-of_z w64 b g ∙ q)

pub returns-then-below_upper-above_lower : goal.returns-then-below_upper-above_lower
returns-then-below_upper-above_lower c =
    let x : SFits w64 c.args.x = c.ranges.x in
    let v : SFits w64 c.value.result = search rules in
    let w : SFits w64 c.value-2.result = search rules in
    let above = computed c.args.x c.value.result c.args.x _ c.abs_diff-above_lower.result c.abs_diff-above_lower.ensures x v refl c.value.ensures.value in
    let below = computed c.value-2.result c.args.x _ c.args.x c.abs_diff-below_upper.result c.abs_diff-below_upper.ensures w x c.value-2.ensures.value refl in
    nearest-upper c.args.axis.now c.cell_of-place.result c.args.x c.value.ensures.axis (cell_holds c.args.axis.now c.cell_of-place.result c.args.x (simp to_z-of_z at c.cell_of-place.ensures))
    (rw (below, above) at c.if-below_upper-above_lower.true)

pub returns-else-below_upper-above_lower : goal.returns-else-below_upper-above_lower
returns-else-below_upper-above_lower c =
    let x : SFits w64 c.args.x = c.ranges.x in
    let v : SFits w64 c.value.result = search rules in
    let w : SFits w64 c.value-2.result = search rules in
    let above = computed c.args.x c.value.result c.args.x _ c.abs_diff-above_lower.result c.abs_diff-above_lower.ensures x v refl c.value.ensures.value in
    let below = computed c.value-2.result c.args.x _ c.args.x c.abs_diff-below_upper.result c.abs_diff-below_upper.ensures w x c.value-2.ensures.value refl in
    nearest-lower c.args.axis.now c.cell_of-place.result c.args.x c.value.ensures.axis (cell_holds c.args.axis.now c.cell_of-place.result c.args.x (simp to_z-of_z at c.cell_of-place.ensures))
    (rw (below, above) at c.if-below_upper-above_lower.false)
