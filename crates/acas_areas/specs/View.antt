-- What the structs stand for.
use Rattle.std.specs.Prelude.{pos}
use Rattle.acas_frac.specs.Fraction.{Fraction}
use Rattle.acas_flight.specs.Response.{Demand}
use Rattle.acas_flight.specs.Window.{Times}
use Rattle.acas_flight.specs.Clear.{Area}
use Rattle.acas_flight.specs.Border.{Border, border_of}
use Rattle.acas_areas.specs.Limits.{area_from, times_from}
use Rattle.acas_areas.specs.Chases.{demand_from}
use Rattle.acas_areas.specs.declared.parts.Window.{Window}
use Rattle.acas_areas.specs.declared.parts.BoxState.{BoxState}
use Rattle.acas_areas.specs.declared.parts.Asked.{Asked}
use Rattle.acas_areas.specs.declared.parts.Chase.{Chase}
use Rattle.acas_areas.specs.declared.parts.Moment.{Moment}

abbrev pub times_of : Window → Times
times_of w = times_from w.from w.to

abbrev pub area_of : BoxState → Area
area_of b = area_from b.h b.v0 b.v1

abbrev pub demand_in : Asked → Demand
demand_in a = demand_from a.lo a.hi a.pull a.limit a.delay

abbrev pub border_in : Chase → Border
border_in c = border_of c.start c.aim c.pull c.hold c.height c.rate

abbrev pub time_at : Moment → Fraction
time_at t = record { num = pos t.num; den = t.den }
