use Rattle.std.proofs.Common.{◌≡◌, ◌∙◌, ◌≤◌, ℤ, ◌≤ℤ◌, arith, of_z, to_z, unsigned_abs}
use Rattle.std.proofs.lemmas.Grind.{common_steps}
use Rattle.std.specs.Int.{w128, w64}
use Rattle.std.proofs.lemmas.Int.{ints}
use Rattle.acas_flight.specs.Parts.{CanBeMet}
use Rattle.acas_flight.specs.Response.{Demand}
use Rattle.acas_areas.specs.Chases.{IsAsked}
use Rattle.acas_areas.specs.Limits.{interval_of}
use Rattle.acas_areas.specs.Sizes.{altitude_size}
use Rattle.acas_areas.specs.View.{demand_in}
use Rattle.acas_safeable.proofs.Ordered.{ends_ordered}
use Rattle.acas_safeable.proofs.reaching.reached_from.Goals as goal

asked_can_be_met : (a : Demand) → IsAsked a → CanBeMet a
asked_can_be_met a is = record { ordered = is.ordered; some_pull = is.some; pull_within = is.pull }

in_order : (x y a b : ℤ) → x ≡ a → y ≡ b → a ≤ℤ b → unsigned_abs x ≤ altitude_size → unsigned_abs y ≤ altitude_size → to_z w64 (of_z w64 x) ≤ℤ to_z w64 (of_z w64 y)
in_order x y a b e f h i j = omega (arith, ints)

pub new-requires : goal.new-requires
new-requires c =
    let area = c.args.area.now in
    let order = ends_ordered (demand_in c.args.asked.now) (asked_can_be_met (demand_in c.args.asked.now) c.args.asked.now.within) (interval_of area.h) (interval_of area.v0) (interval_of area.v1) area.h.ordered area.v0.ordered area.v1.ordered in
    let least : to_z w128 (of_z w128 c.least_altitude.result) ≡ c.least_altitude.result = omega (arith, ints, c.least_altitude.type_inv) in
    let greatest : to_z w128 (of_z w128 c.greatest_altitude.result) ≡ c.greatest_altitude.result = omega (arith, ints, c.greatest_altitude.type_inv) in
    in_order _ _ _ _ (c.in_ok-least.ensures.value ∙ least ∙ c.least_altitude.ensures) (c.in_ok-greatest.ensures.value ∙ greatest ∙ c.greatest_altitude.ensures) order c.in_ok-least.ensures.size c.in_ok-greatest.ensures.size

pub returns-in_err-least : goal.returns-in_err-least
returns-in_err-least c = grind (arith, common_steps)

pub returns-in_err-greatest : goal.returns-in_err-greatest
returns-in_err-greatest c = grind (arith, common_steps)

pub invariant_of-result : goal.invariant_of-result
invariant_of-result c = grind (arith, common_steps)

pub returns : goal.returns
returns c = grind (arith, common_steps)
