use Rattle.std.proofs.Common.{◌≡◌, ℕ, to_z, of_z, w32, List, length, get_or, ap, subst, ◌∙◌, arith}
use Rattle.std.proofs.lemmas.Int.{ints}
use Rattle.acas_step_stencils.specs.Heights.{IsLedTo}
use Rattle.acas_step_stencils.proofs.HeightLaws.{first_height}
use Rattle.acas_step_stencils.proofs.stencils.Stencils.place_risen.Goals as goal

pub place_after-requires-clause-some : goal.place_after-requires-clause-some
place_after-requires-clause-some c =
    omega (arith, ap (λ (hs : List ℕ). length hs) c.deref.ensures.value, c.requires.stencil.usable.stencils.heights.count, c.grid.ensures.valid.grid.altitudes.at_least)

pub place_after-requires-clause-short : goal.place_after-requires-clause-short
place_after-requires-clause-short c =
    omega (arith, ap (λ (hs : List ℕ). length hs) c.deref.ensures.value, c.requires.stencil.usable.stencils.heights.count, c.grid.ensures.valid.grid.altitudes.at_most)

pub place_after-requires-clause-first : goal.place_after-requires-clause-first
place_after-requires-clause-first c =
    let m = c.args.model.now in
    let all = c.args.self.now in
    let are = c.requires.stencil.usable.stencils in
    ap (λ (hs : List ℕ). get_or hs 0 0) c.deref.ensures.value ∙ first_height m.grid.h all.units.h all.heights.items are.units.h (omega (arith, c.requires.place)) are.heights

pub returns : goal.returns
returns c =
    let s = c.args.rise.led in
    let fits : to_z w32 (of_z w32 s.climb) ≡ s.climb = omega (arith, ints, c.requires.rise.led.small) in
    (c.place_after.ensures.0, subst (λ (list : List ℕ). IsLedTo list c.args.i s.climb c.place_after.ensures.0 c.place_after.result) c.deref.ensures.value (rw (fits) at c.place_after.ensures.1))
