-- An area that is not clear is endangered: the search between the times of its two gaps can meet.
use Rattle.std.proofs.Common.{ℕ, ◌*◌, ◌<◌, ◌≤◌, arith}
use Rattle.std.proofs.lemmas.Int.{ints}
use Rattle.acas_spec.specs.Model.{ModelData, advisory_at}
use Rattle.acas_spec.specs.Limits.{IsModel, IsAdvisory}
use Rattle.acas_frac.specs.Fraction.{Fraction}
use Rattle.acas_flight.specs.Response.{Demand, demand_of}
use Rattle.acas_flight.specs.Parts.{CanBeMet}
use Rattle.acas_flight.specs.Window.{Times}
use Rattle.acas_flight.specs.Clear.{Area, IsClear, IsEndangeredDuring}
use Rattle.acas_areas.specs.Limits.{AreEnds}
use Rattle.acas_areas.specs.View.{area_of, times_of}
use Rattle.acas_areas.specs.declared.parts.BoxState.{BoxState}
use Rattle.acas_areas.specs.declared.parts.Window.{Window}
use Rattle.acas_areas.specs.Value.{thinnest}
use Rattle.acas_areas.specs.Search.{IsSearch, IsMoment}
use Rattle.acas_pass_lemmas.proofs.Founds.{endangers}
use Rattle.acas_rulings.specs.Witness.{search_between, IsClearIn, IsEndangeredIn}
use Rattle.acas_witness_lemmas.proofs.Extremes.{low_reached, high_reached}
use Rattle.acas_witness_lemmas.proofs.Meetings.{can_meet}

not_clear : (half : ℕ) (a : Demand) (area : Area) (w : Times) → thinnest ≤ 2 * half → CanBeMet a → AreEnds w →
    ((low high : Fraction) → IsMoment low → IsMoment high → IsSearch (search_between a area low high)) →
    ¬ IsClear half a area w → IsEndangeredDuring half a area w
not_clear half a area w thick f ends search not =
    let l = low_reached a area w f ends in
    let h = high_reached a area w f ends in
    endangers half (search_between a area l.time h.time) w thick (search l.time h.time l.moment h.moment)
    (record { low_after = l.extreme.first.after; low_before = l.extreme.first.before; high_after = h.extreme.first.after; high_before = h.extreme.first.before })
    (can_meet half a area w l.time h.time l.extreme h.extreme not)

-- the same of an area within the limits, under an advisory of a model
pub not_clear_in : (m : ModelData) (advisory : ℕ) (area : BoxState) (window : Window) → IsModel m → advisory < m.grid.advisories →
    ¬ IsClearIn m advisory area window → IsEndangeredIn m advisory area window
not_clear_in m advisory area window is known =
    not_clear m.half (demand_of m advisory) (area_of area) (times_of window) (omega (arith, is.some_half)) met window.ends
    (λ low high l h. record {
      demand = met;
      aims = record { least = omega (arith, ints, asked.low, asked.rising, asked.high); greatest = omega (arith, ints, asked.low, asked.rising, asked.high); ordered = asked.rising };
      altitude = area.h.ordered;
      own = record { least = area.fits.own.least; greatest = area.fits.own.greatest; ordered = area.v0.ordered };
      intruder = record { least = area.fits.intruder.least; greatest = area.fits.intruder.greatest; ordered = area.v1.ordered };
      low = l;
      high = h;
    })
  where
    asked : IsAdvisory (advisory_at m advisory)
    asked = is.advisories advisory known

    met : CanBeMet (demand_of m advisory)
    met = record { ordered = asked.rising; some_pull = omega (arith, is.some_pull); pull_within = is.pull_within }
