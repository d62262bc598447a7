use Rattle.std.proofs.Common.{◌≡◌, ℕ, ◌<◌, ℤ, ◌≤ℤ◌, true, length, ap, refl, subst, sym, arith, rules, w64}
use Rattle.std.proofs.lemmas.Bool.{false≢true}
use Rattle.std.proofs.lemmas.Grind.{common_steps}
use Rattle.std.proofs.lemmas.Int.{to_z-of_z}
use Rattle.acas_spec.specs.Model.{ModelData, choices_at}
use Rattle.acas_grid.specs.States.{vertex_at}
use Rattle.acas_process.proofs.ModelLaws.{listed}
use Rattle.acas_means.specs.Choices.{no_choice, value_by_mean}
use Rattle.acas_bounds.specs.Means.{formed_upper}
use Rattle.acas_bounds.specs.Planes.{IsAtPlace, IsPlane}
use Rattle.acas_bounds.specs.Sound.{is_allowed}
use Rattle.acas_bounds.specs.declared.plane.Plane.{Plane}
use Rattle.acas_bounds.proofs.Allowed.{is_allowed-is}
use Rattle.acas_bounds.proofs.NoFault.{not_allowed}
use Rattle.acas_bounds.proofs.near.is_upper_met.Goals as goal
use mir.Val.{SFits}

-- one at a place of a plane is allowed
at_place : (m : ModelData) (plane : Plane) (a k : ℕ) → IsPlane m plane → IsAtPlace plane a k → is_allowed m plane.present a ≡ true
at_place m plane a k is at =
    let within : k < length (choices_at m plane.present) = subst (λ (n : ℕ). k < n) is.count at.within in
    (is_allowed-is m plane.present a).1 (rw (← at.is, is.advisory k at.within) (listed (choices_at m plane.present) k no_choice within))

pub is_above-requires-clause-choice : goal.is_above-requires-clause-choice
is_above-requires-clause-choice c = grind (arith, common_steps)

pub returns-in-None : goal.returns-in-None
returns-in-None c = (
  λ never. absurd (false≢true never),
  λ met. absurd (not_allowed c.args.model.now c.args.plane.now c.args.entry.now.advice c.requires.plane (c.in-None.ensures.none refl) met.allowed),
)

pub returns-in-Some : goal.returns-in-Some
returns-in-Some c =
    let m = c.args.model.now in
    let entry = c.args.entry.now in
    let at = c.in-Some.ensures.some in
    let upper : SFits w64 entry.pair.upper = search rules in
    let above = simp (to_z-of_z, upper) at c.is_above.ensures in
    let same = ap (value_by_mean m c.args.plane.now.present (formed_upper m c.args.means.now (vertex_at m.grid c.args.vertex))) at.is in (
      λ yes. record {
        allowed = at_place m c.args.plane.now entry.advice c.in-Some.place c.requires.plane at;
        enough = subst (λ (v : ℤ). v ≤ℤ entry.pair.upper) same (above.0 yes);
      },
      λ met. above.1 (subst (λ (v : ℤ). v ≤ℤ entry.pair.upper) (sym same) met.enough),
    )
