use Rattle.std.proofs.Common.{◌≡◌, ◌∙◌, ap₂}
use Rattle.acas_replay.specs.Encounter.{seconds}
use Rattle.acas_outside.specs.Bytes.{AppendsPart}
use Rattle.acas_outside.proofs.Appended.{on_err_always}
use Rattle.acas_replay.specs.Replay.{Course, IsCourse, contacts, counts_line, replay_text}
use Rattle.acas_replay.proofs.Texts.{part_at_last, part_before_last, whole_text}
use Rattle.acas_replay.proofs.replaying.write_whole.Goals as goal

pub returns-in_err-contacts-clause-err : goal.returns-in_err-contacts-clause-err
returns-in_err-contacts-clause-err g c =
    let m = c.args.replayed.now.model.now in
    let a = c.args.replayed.now.advices.now in
    let e = c.args.replayed.now.encounter.now in
    let part : (d : Course) → IsCourse m a e d → AppendsPart (g.S.Sink.written c.args.sink.now) (g.S.Sink.written c.write_seconds.new.sink) (replay_text m e d) =
    λ d is. part_before_last m e d _ _ c.args.pen.now.buffer c.requires.empty (c.in_err-contacts.ensures.err d is) in
    on_err_always _ part

pub returns-in_err-end-clause-err : goal.returns-in_err-end-clause-err
returns-in_err-end-clause-err g c =
    let m = c.args.replayed.now.model.now in
    let a = c.args.replayed.now.advices.now in
    let e = c.args.replayed.now.encounter.now in
    let last : (d : Course) → IsCourse m a e d → c.write_counts.new.line ≡ counts_line (seconds e) (contacts d (seconds e)) =
    λ d is. c.write_counts.ensures.value ∙ ap₂ counts_line c.seconds.ensures.value (c.in_ok-contacts.ensures.counted d is) in
    let part : (d : Course) → IsCourse m a e d → AppendsPart (g.S.Sink.written c.args.sink.now) (g.S.Sink.written c.end.new.sink) (replay_text m e d) =
    λ d is. part_at_last m e d (g.S.Sink.written c.args.sink.now) (g.S.Sink.written c.write_seconds.new.sink) (g.S.Sink.written c.end.new.sink) c.args.pen.now.buffer c.write_seconds.new.pen.buffer c.write_counts.new.line
    c.requires.empty (last d is) (c.in_ok-contacts.ensures.ok d is) c.in_err-end.ensures.err in
    on_err_always _ part

pub returns-clause-ok : goal.returns-clause-ok
returns-clause-ok g c =
    let m = c.args.replayed.now.model.now in
    let a = c.args.replayed.now.advices.now in
    let e = c.args.replayed.now.encounter.now in
    let last : (d : Course) → IsCourse m a e d → c.write_counts.new.line ≡ counts_line (seconds e) (contacts d (seconds e)) =
    λ d is. c.write_counts.ensures.value ∙ ap₂ counts_line c.seconds.ensures.value (c.in_ok-contacts.ensures.counted d is) in
    λ d is. whole_text m e d (g.S.Sink.written c.args.sink.now) (g.S.Sink.written c.write_seconds.new.sink) (g.S.Sink.written c.end.new.sink) c.args.pen.now.buffer c.write_seconds.new.pen.buffer c.write_counts.new.line
    c.requires.empty (last d is) (c.in_ok-contacts.ensures.ok d is) c.in_ok-end.ensures.ok
