use Rattle.std.proofs.Common.{◌≡◌, to_z, of_z, arith, mul-pos}
use Rattle.std.specs.Int.{w64}
use Rattle.std.proofs.lemmas.Int.{ints}
use Rattle.acas_areas.specs.Search.{grain, intruder_pass}
use Rattle.acas_witness_search.specs.Surveys.{search_of}
use Rattle.acas_witness_plans.proofs.Ways.{exact_last, eighth_some, eighths_way}
use Rattle.acas_witness_search.proofs.survey.Survey.last_intruder.Goals as goal

pub returns : goal.returns
returns c =
    let s = c.args.self.now in
    let p = mul-pos s.low_end.some s.high_end.some in
    let g : to_z w64 (of_z w64 s.area.v1.greatest) ≡ s.area.v1.greatest = omega (arith, ints, s.area.fits.intruder.greatest) in
    let l : to_z w64 (of_z w64 s.area.v1.least) ≡ s.area.v1.least = omega (arith, ints, s.area.fits.intruder.least) in
    exact_last (intruder_pass (search_of s)) c.rate_steps_between.result (eighths_way s.area.v1.greatest s.area.v1.least (grain (search_of s)) c.rate_steps_between.result (rw (g, l) at c.rate_steps_between.ensures)) (eighth_some (grain (search_of s)) p)
