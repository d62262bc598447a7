use Rattle.std.proofs.Common.{◌∙◌, ℤ, ◌≤ℤ◌, refl, subst, sym}
use Rattle.std.proofs.lemmas.Bool.{false≢true}
use Rattle.acas_grid.specs.States.{vertex_at}
use Rattle.acas_grid.proofs.StateNumbers.{IsVertex-vertex_at}
use Rattle.acas_bounds.proofs.Allowed.{is_allowed-is}
use Rattle.acas_bounds.proofs.NoFault.{no_fault-is_met}
use Rattle.acas_bounds.proofs.near.is_sound_at.Goals as goal

pub returns-then-is_upper_met-clause-value : goal.returns-then-is_upper_met-clause-value
returns-then-is_upper_met-clause-value c = λ t n some entry layer.
    let m = c.args.model.now in
    let e = c.args.entry.now in
    let inside = IsVertex-vertex_at m.grid c.args.vertex c.requires.vertex in
    let is = no_fault-is_met m t n c.args.plane.now.present (vertex_at m.grid c.args.vertex) e c.args.means.now c.requires.plane.valid c.requires.plane.present inside some entry layer in
    let least = c.requires.leasts.each c.args.vertex c.requires.vertex in (
      λ sound. is.1 (c.if-is_upper_met.ensures.0 refl, subst (λ (l : ℤ). e.pair.lower ≤ℤ l) least (c.is_lower_met.ensures.0 sound)),
      λ none. c.is_lower_met.ensures.1 (subst (λ (l : ℤ). e.pair.lower ≤ℤ l) (sym least) (is.0 none).1),
    )

pub returns-then-is_upper_met-clause-allowed : goal.returns-then-is_upper_met-clause-allowed
returns-then-is_upper_met-clause-allowed c = λ sound.
    (is_allowed-is c.args.model.now c.args.plane.now.present c.args.entry.now.advice).0 (c.if-is_upper_met.ensures.0 refl).allowed

pub returns-else-is_upper_met-clause-value : goal.returns-else-is_upper_met-clause-value
returns-else-is_upper_met-clause-value c = λ t n some entry layer.
    let m = c.args.model.now in
    let inside = IsVertex-vertex_at m.grid c.args.vertex c.requires.vertex in
    let is = no_fault-is_met m t n c.args.plane.now.present (vertex_at m.grid c.args.vertex) c.args.entry.now c.args.means.now c.requires.plane.valid c.requires.plane.present inside some entry layer in
    (λ sound. absurd (false≢true (sym c.if-is_upper_met.false ∙ sound)), λ none. c.is_upper_met.ensures.1 (is.0 none).0)
