use Rattle.std.proofs.Common.{◌≡◌, ◌∙◌, ◌++◌, List, ℕ, subst}
use Rattle.acas_outside.specs.Bytes.{AppendsPart}
use Rattle.acas_outside.proofs.Appended.{on_err_always}
use Rattle.acas_outside.specs.Printing.{Prints}
use Rattle.acas_replay.specs.Replay.{Course, IsCourse, second_line}
use Rattle.acas_replay.proofs.Texts.{found_line}
use Rattle.acas_replay.proofs.replaying.write_second.Goals as goal

pub returns-in_err-print-clause-err : goal.returns-in_err-print-clause-err
returns-in_err-print-clause-err g c =
    let m = c.args.replayed.now.model.now in
    let a = c.args.replayed.now.advices.now in
    let e = c.args.replayed.now.encounter.now in
    let line : (d : Course) → IsCourse m a e d → c.bytes.result.now ≡ second_line m e d c.args.second =
    λ d is. c.bytes.ensures ∙ c.write_line.ensures.value ∙ found_line m a e d c.args.second c.args.at.now.state c.found_in-found.result is c.requires.second (c.requires.flown.state d is) c.found_in-found.ensures in
    let part : (d : Course) → IsCourse m a e d → AppendsPart (g.S.Sink.written c.args.sink.now) (g.S.Sink.written c.print.new.sink) (c.args.pen.now.buffer ++ second_line m e d c.args.second) =
    λ d is. subst (λ (l : List ℕ). AppendsPart (g.S.Sink.written c.args.sink.now) (g.S.Sink.written c.print.new.sink) (c.args.pen.now.buffer ++ l)) (line d is) c.in_err-print.ensures.err in
    on_err_always _ part

pub returns-clause-ok : goal.returns-clause-ok
returns-clause-ok g c =
    let m = c.args.replayed.now.model.now in
    let a = c.args.replayed.now.advices.now in
    let e = c.args.replayed.now.encounter.now in
    let line : (d : Course) → IsCourse m a e d → c.bytes.result.now ≡ second_line m e d c.args.second =
    λ d is. c.bytes.ensures ∙ c.write_line.ensures.value ∙ found_line m a e d c.args.second c.args.at.now.state c.found_in-found.result is c.requires.second (c.requires.flown.state d is) c.found_in-found.ensures in
    λ d is. subst (λ (l : List ℕ). Prints (g.S.Sink.written c.args.sink.now) (g.S.Sink.written c.print.new.sink) c.args.pen.now.buffer c.print.new.self l) (line d is) c.in_ok-print.ensures.ok
