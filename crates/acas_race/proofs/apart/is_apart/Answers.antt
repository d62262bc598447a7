use Rattle.std.proofs.Common.{◌≡◌, ℕ, ◌↔◌, IsTrue, subst, arith}
use Rattle.std.proofs.lemmas.Int.{ints}
use Rattle.acas_flight.specs.Response.{Demand, demand_of}
use Rattle.acas_areas.specs.View.{area_of, times_of}
use Rattle.acas_rulings.specs.Apart.{IsApart}
use Rattle.acas_rulings.specs.MeetingView.{may_of}
use Rattle.acas_race.proofs.apart.is_apart.Goals as goal

pub returns : goal.returns
returns c =
    let h : c.natural-half.result ≡ c.args.on.now.model.now.half = omega (arith, ints, c.half.ensures, c.natural-half.ensures) in
    let may = may_of c.args.on.now.may.now in
    let area = area_of c.args.on.now.area.now in
    let w = times_of c.args.on.now.window.now in
    subst (λ (n : ℕ). IsTrue c.is_apart_of.result ↔ IsApart n (demand_of c.args.on.now.model.now c.args.on.now.advisory) may area w) h
    (subst (λ (a : Demand). IsTrue c.is_apart_of.result ↔ IsApart c.natural-half.result a may area w) c.asked_by.ensures c.is_apart_of.ensures)
