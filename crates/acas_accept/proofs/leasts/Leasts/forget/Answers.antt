use Rattle.std.proofs.Common.{◌≤◌, ◌^◌, arith}
use Rattle.std.proofs.lemmas.Bool.{leb-true}
use Rattle.acas_accept.proofs.leasts.Leasts.forget.Goals as goal

pub returns : goal.returns
returns c = λ m means other have within.
    record {
      count = have.count;
      found = tt;
      near = λ small side. record { bounded = λ place h. let least : c.args.size ≤ 2 ^ 62 = leb-true c.args.size (2 ^ 62) small in omega (arith, (within side).bounded place h, least) };
    }
