use Rattle.std.proofs.Common.{◌≡◌, ◌≢◌, ℕ, ◌+◌, ◌<◌, ℤ, List, of_z, to_z, ap, sym, ◌∙◌, rules, w64, arith}
use Rattle.std.proofs.lemmas.Int.{to_z-of_z}
use borrow.Author.Count.{below_more}
use Rattle.acas_spec.specs.Model.{choices_at}
use Rattle.acas_spec.specs.declared.parts.Choice.{Choice}
use Rattle.acas_process.specs.Compiled.{least}
use Rattle.acas_means.specs.Choices.{listed_choice, no_choice, value_by_mean}
use Rattle.acas_means.specs.Layer.{value_at}
use Rattle.acas_means.specs.declared.layer.Side.TheVariants.{Upper}
use Rattle.acas_sweep.proofs.LeastSoFar.{first_of, one_more}
use Rattle.acas_sweep.proofs.best.first_choice.Goals as goal
use mir.Val.{SFits}

pub loop-place-preserved : goal.loop-place-preserved
loop-place-preserved c =
    let m = c.args.model.now in
    let p = c.args.present in
    let place = c.loop-place.place in
    let so_far = c.loop-place.invariant in
    let list = c.requires.priced.list in
    let cs : List Choice = choices_at m p in
    let f : ℕ → ℤ = value_by_mean m p (value_at Upper c.args.vertex_means.now) in
    let least_is : c.args.least_upper ≡ least f cs = c.requires.least in
    let value : c.valued_choice.result.upper ≡ f (listed_choice m p place).advisory = c.valued_choice.ensures.upper ∙ ap f (list.advisory place so_far.inside) in
    let apart : f (listed_choice m p place).advisory ≢ least f cs = λ same. c.loop-place-test.true (ap (of_z w64) (value ∙ same ∙ sym least_is)) in
    let none : (k : ℕ) → k < place + 1 → f (listed_choice m p k).advisory ≢ least f cs = below_more (λ (k : ℕ). f (listed_choice m p k).advisory ≢ least f cs) place so_far.none apart in
    record {
      inside = omega (arith, list.count, one_more f cs no_choice (place + 1) (omega (arith, list.count, list.some)) none);
      none = none;
    }

pub returns : goal.returns
returns c =
    let m = c.args.model.now in
    let p = c.args.present in
    let place = c.loop-place.place in
    let so_far = c.loop-place.invariant in
    let list = c.requires.priced.list in
    let cs : List Choice = choices_at m p in
    let f : ℕ → ℤ = value_by_mean m p (value_at Upper c.args.vertex_means.now) in
    let fits : SFits w64 c.args.least_upper = c.ranges.least_upper in
    let value_fits : SFits w64 c.valued_choice.result.upper = search rules in
    let least_is : c.args.least_upper ≡ least f cs = c.requires.least in
    let met : c.valued_choice.result.upper ≡ c.args.least_upper = simp to_z-of_z at (ap (to_z w64) c.loop-place-test.false) in
    let value : c.valued_choice.result.upper ≡ f (listed_choice m p place).advisory = c.valued_choice.ensures.upper ∙ ap f (list.advisory place so_far.inside) in
    list.advisory place so_far.inside ∙ first_of f cs no_choice place (omega (arith, list.count, so_far.inside)) so_far.none (sym value ∙ met ∙ least_is)
