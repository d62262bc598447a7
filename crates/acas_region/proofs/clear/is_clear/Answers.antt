use Rattle.std.proofs.Common.{◌≡◌, arith}
use Rattle.std.proofs.lemmas.Int.{ints}
use Rattle.acas_flight.specs.Response.{demand_of}
use Rattle.acas_flight_lemmas.proofs.Models.{demand_can_be_met}
use Rattle.acas_flight_lemmas.proofs.Safe.{clear_areas_are_safe}
use Rattle.acas_areas.specs.View.{area_of, demand_in, times_of}
use Rattle.acas_region.proofs.Clears.{clear_by}
use Rattle.acas_region.proofs.clear.is_clear.Goals as goal

pub returns : goal.returns
returns c =
    let h : c.natural-half.result ≡ c.args.model.now.half = omega (arith, ints, c.half.ensures, c.natural-half.ensures) in
    let exact = clear_by c.natural-half.result c.args.model.now.half (demand_in c.asked_by.result) (demand_of c.args.model.now c.args.advisory) (area_of c.args.area.now) (times_of c.args.window.now) c.is_clear_of.result
    h c.asked_by.ensures c.is_clear_of.ensures in
    let met = demand_can_be_met c.args.model.now c.args.advisory c.grid.ensures.valid c.requires in
    record { exact = exact; safe = λ t. clear_areas_are_safe c.args.model.now.half (demand_of c.args.model.now c.args.advisory) (area_of c.args.area.now) (times_of c.args.window.now) met (exact.0 t) }
