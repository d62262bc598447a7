use Rattle.std.proofs.Common.{◌≡◌, ◌≤◌, ◌-ℤ◌, unsigned_abs, to_z, of_z, w64, ap, sym, subst, ◌∙◌, arith}
use Rattle.std.proofs.lemmas.Int.{ints}
use Rattle.acas_spec.specs.Axis.{place_value}
use Rattle.acas_spec.specs.Model.{GridData}
use Rattle.acas_spec.specs.declared.place.Point.{Point}
use Rattle.acas_spec.proofs.Bounds.{unsigned_abs-within}
use Rattle.acas_step.specs.Second.{led_past}
use Rattle.acas_step_stencils.proofs.column_stencils.climb_from.Goals as goal

pub overflow_sub-result : goal.overflow_sub-result
overflow_sub-result c =
    let m = c.args.model.now in
    let at : c.value.result ≡ place_value m.grid.h c.args.from.i = c.value.ensures.value ∙ ap (λ (g : GridData). place_value g.h c.args.from.i) (c.behind-model.view_is ∙ c.grid.ensures.value) in
    let near : unsigned_abs c.value.result ≤ 1200000 =
    subst (λ z. unsigned_abs z ≤ 1200000) (sym at) (unsigned_abs-within 1200000 _ _ m.grid.h c.args.from.i c.grid.ensures.valid.grid.altitudes_within c.requires.vertex.i (omega arith) (omega arith)) in
    omega (arith, ints, near, c.led_past.ensures.near)

pub returns-clause-value : goal.returns-clause-value
returns-clause-value c =
    let m = c.args.model.now in
    let at : c.value.result ≡ place_value m.grid.h c.args.from.i = c.value.ensures.value ∙ ap (λ (g : GridData). place_value g.h c.args.from.i) (c.behind-model.view_is ∙ c.grid.ensures.value) in
    let near : unsigned_abs c.value.result ≤ 1200000 =
    subst (λ z. unsigned_abs z ≤ 1200000) (sym at) (unsigned_abs-within 1200000 _ _ m.grid.h c.args.from.i c.grid.ensures.valid.grid.altitudes_within c.requires.vertex.i (omega arith) (omega arith)) in
    let climb : to_z w64 (of_z w64 (to_z w64 (of_z w64 c.led_past.result.h) -ℤ to_z w64 (of_z w64 c.value.result))) ≡ c.led_past.result.h -ℤ c.value.result = omega (arith, ints, near, c.led_past.ensures.near) in
    climb
    ∙ ap (λ (p : Point). p.h -ℤ c.value.result) c.led_past.ensures.value
    ∙ ap (λ z. (led_past m c.args.from c.args.advisory c.args.sigma).h -ℤ z) at

pub returns-clause-small : goal.returns-clause-small
returns-clause-small c =
    let m = c.args.model.now in
    let at : c.value.result ≡ place_value m.grid.h c.args.from.i = c.value.ensures.value ∙ ap (λ (g : GridData). place_value g.h c.args.from.i) (c.behind-model.view_is ∙ c.grid.ensures.value) in
    let near : unsigned_abs c.value.result ≤ 1200000 =
    subst (λ z. unsigned_abs z ≤ 1200000) (sym at) (unsigned_abs-within 1200000 _ _ m.grid.h c.args.from.i c.grid.ensures.valid.grid.altitudes_within c.requires.vertex.i (omega arith) (omega arith)) in
    omega (arith, ints, near, c.led_past.ensures.near)
