use Rattle.std.proofs.Common.{◌≡◌, sym, arith, to_z, of_z}
use Rattle.std.specs.Int.{w64}
use Rattle.std.proofs.lemmas.Int.{ints}
use Rattle.acas_areas.specs.View.{demand_in}
use Rattle.acas_region_curves.proofs.Climbs.{high_border}
use Rattle.acas_region.proofs.demand.highest_of.Goals as goal

pub returns-clause-climb : goal.returns-clause-climb
returns-clause-climb c =
    let a = c.args.asked.now in
    let k : to_z w64 (of_z w64 a.hi) ≡ a.hi = omega (arith, ints, a.within.hi) in
    high_border (demand_in a) c.args.v.now c.args.t.now c.climb_to.result c.requires.rate.some c.is_over.result
    (sym (rw k at c.is_over.ensures)) (rw k at c.climb_to.ensures.climb)
