-- What the structs stand for.
use Rattle.std.specs.Prelude.{unsigned_abs}
use Rattle.acas_rulings.specs.Intruder.{Manoeuvre}
use Rattle.acas_rulings.specs.declared.manoeuvre.Manoeuvre as declared

abbrev pub may_of : declared.Manoeuvre → Manoeuvre
may_of may = record { accel = unsigned_abs may.accel; rate = unsigned_abs may.rate }
