use Rattle.std.proofs.Common.{arith}
use Rattle.acas_frac.proofs.Bounds.{product_size}
use Rattle.acas_units.specs.declared.limits.TheConstants.{GREATEST_CLOSING}
use Rattle.acas_replay.proofs.Casts.{whole_product}
use Rattle.acas_replay.proofs.parabola.times_parts.Goals as goal

pub returns : goal.returns
returns c =
    let e = whole_product c.args.a c.args.b GREATEST_CLOSING GREATEST_CLOSING c.requires.a c.requires.b (omega arith) (omega arith) (omega arith) in
    record { value = e; size = rw e (product_size c.args.a c.args.b GREATEST_CLOSING GREATEST_CLOSING c.requires.a c.requires.b) }
