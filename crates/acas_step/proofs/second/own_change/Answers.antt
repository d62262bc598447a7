use Rattle.std.proofs.Common.{◌≡◌, to_z, of_z, w64, ◌+ℤ◌, ap, ◌∙◌, arith, rules}
use Rattle.std.proofs.lemmas.Int.{ints, to_z-of_z}
use Rattle.std.proofs.lemmas.Grind.{common_steps}
use Rattle.acas_spec.specs.Model.{advisory_at}
use Rattle.acas_spec.specs.declared.parts.Advisory.{Advisory}
use Rattle.acas_process.specs.Step.{command}
use Rattle.acas_step.proofs.second.own_change.Goals as goal
use mir.Val.{SFits}

pub returns-clause-value : goal.returns-clause-value
returns-clause-value c =
    let sum : to_z w64 (of_z w64 (to_z w64 (of_z w64 c.command.result) +ℤ to_z w64 (of_z w64 c.args.noise))) ≡ c.command.result +ℤ c.args.noise = omega (arith, ints) in
    let known = c.grid.ensures.valid.advisories c.args.advisory c.requires.advisory in
    let e = c.advisory-asked.ensures in
    let l : SFits w64 c.advisory-asked.result.now.lo = rw e (omega (arith, ints, known.low, known.rising, known.high)) in
    let h : SFits w64 c.advisory-asked.result.now.hi = rw e (omega (arith, ints, known.low, known.rising, known.high)) in
    let p : SFits w64 c.pull-pull.result = search rules in
    let v : SFits w64 c.args.v = c.ranges.v in
    sum
    ∙ ap (λ z. z +ℤ c.args.noise)
    ((simp to_z-of_z at c.command.ensures.value)
    ∙ ap (λ (r : Advisory). command r.lo r.hi c.pull-pull.result c.args.v) e
    ∙ ap (λ z. command (advisory_at c.args.model.now c.args.advisory).lo (advisory_at c.args.model.now c.args.advisory).hi z c.args.v) c.pull-pull.ensures)

pub command-requires : goal.command-requires
command-requires c = grind (arith, common_steps)
