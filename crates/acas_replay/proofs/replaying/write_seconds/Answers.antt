use Rattle.std.proofs.Common.{◌<◌, ◌++◌, arith}
use Rattle.std.proofs.lemmas.Grind.{common_steps}
use Rattle.acas_replay.specs.Encounter.{seconds}
use Rattle.acas_outside.specs.Bytes.{AppendsPart}
use Rattle.acas_outside.proofs.Appended.{on_err_always}
use Rattle.acas_outside.specs.Printing.{below}
use Rattle.acas_outside.proofs.PrintedPieces.{part_of_below, prints_below}
use Rattle.acas_replay.specs.Replay.{Course, IsCourse, second_line}
use Rattle.acas_replay.proofs.replaying.write_seconds.Goals as goal

pub loop-second-init : goal.loop-second-init
loop-second-init g c = grind (arith, common_steps)

pub returns-in_err-at-clause-err : goal.returns-in_err-at-clause-err
returns-in_err-at-clause-err g c =
    let m = c.args.replayed.now.model.now in
    let a = c.args.replayed.now.advices.now in
    let e = c.args.replayed.now.encounter.now in
    let here : c.loop-second.second < seconds e = rw c.seconds-second-end.ensures.value at c.loop-second-test.true in
    let part : (d : Course) → IsCourse m a e d → AppendsPart (g.S.Sink.written c.args.sink.now) (g.S.Sink.written c.write_second.new.sink) (c.args.pen.now.buffer ++ below (seconds e) (second_line m e d)) =
    λ d is. part_of_below (g.S.Sink.written c.args.sink.now) (g.S.Sink.written c.loop-second.sink) (g.S.Sink.written c.write_second.new.sink) c.args.pen.now.buffer c.loop-second.pen.buffer
    (second_line m e d) c.loop-second.second (seconds e) here (c.loop-second.invariant.printed d is) (c.in_err-at.ensures.err d is) in
    on_err_always _ part

pub loop-second-preserved : goal.loop-second-preserved
loop-second-preserved g c =
    let m = c.args.replayed.now.model.now in
    let e = c.args.replayed.now.encounter.now in
    record {
      flown = c.in_ok-at.ensures.flown;
      printed = λ d is. prints_below (g.S.Sink.written c.args.sink.now) (g.S.Sink.written c.loop-second.sink) (g.S.Sink.written c.write_second.new.sink) c.args.pen.now.buffer c.loop-second.pen.buffer c.write_second.new.pen.buffer
          (second_line m e d) c.loop-second.second (c.loop-second.invariant.printed d is) (c.in_ok-at.ensures.ok d is);
      frame = grind arith;
    }

pub returns : goal.returns
returns g c = grind (arith, common_steps)
