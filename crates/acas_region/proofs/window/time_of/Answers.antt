use Rattle.std.proofs.Common.{◌≡◌, arith, pos, to_z}
use Rattle.std.specs.Int.{w128}
use Rattle.std.proofs.lemmas.Int.{ints}
use Rattle.acas_flight_windows.proofs.Ends.{end_of}
use Rattle.acas_region.proofs.window.time_of.Goals as goal

pub returns-clause-end : goal.returns-clause-end
returns-clause-end c =
    let n : to_z w128 c.args.num ≡ pos c.args.num = omega (arith, ints) in
    let d : to_z w128 c.args.den ≡ pos c.args.den = omega (arith, ints) in
    end_of c.new.result c.args.num c.args.den c.new.ensures.lowest c.requires.some c.requires.den c.requires.num (rw (n, d) at c.new.ensures.value)
