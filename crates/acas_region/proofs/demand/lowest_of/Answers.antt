use Rattle.std.proofs.Common.{◌≡◌, sym, arith, to_z, of_z}
use Rattle.std.specs.Int.{w64}
use Rattle.std.proofs.lemmas.Int.{ints}
use Rattle.acas_areas.specs.View.{demand_in}
use Rattle.acas_region_curves.proofs.Climbs.{low_border}
use Rattle.acas_region.proofs.demand.lowest_of.Goals as goal

pub returns-clause-climb : goal.returns-clause-climb
returns-clause-climb c =
    let a = c.args.asked.now in
    let k : to_z w64 (of_z w64 a.lo) ≡ a.lo = omega (arith, ints, a.within.lo) in
    low_border (demand_in a) c.args.v.now c.args.t.now c.climb_to.result c.requires.rate.some c.is_under.result
    (sym (rw k at c.is_under.ensures)) (rw k at c.climb_to.ensures.climb)
