use Rattle.std.proofs.Common.{◌≡◌}
use Rattle.acas_table_text.specs.Text.{entry_at, entry_of}
use Rattle.acas_table_text.specs.Format.{part}
use Rattle.acas_table.proofs.Looks.{advice_bad, advice_given, advice_good, read_given, short_given}
use Rattle.acas_table.proofs.Answered.{answered}
use Rattle.acas_table.proofs.body.read_bytes.Goals as goal

pub returns-in_err-entry-clause-given : goal.returns-in_err-entry-clause-given
returns-in_err-entry-clause-given g c =
    let old = c.args.source.now in
    short_given (λ entry bytes. entry ≡ entry_of (part bytes old.place 17)) (λ entry bytes. entry ≡ entry_at c.args.shape.now bytes c.args.index) _ c.args.name.now c.args.format c.args.shape.now c.args.index old
    c.entry.new.self _ c.from_residual.result (answered _ c.from_residual.ensures.1) c.requires.stands c.in_err-entry.ensures.given

pub returns-then-not-is_advice-clause-given : goal.returns-then-not-is_advice-clause-given
returns-then-not-is_advice-clause-given g c =
    let bad = advice_bad c.args.shape.now c.args.index c.in_ok-entry.entry.advice c.is_advice.result c.is_advice.ensures c.if-not-is_advice.true in
    advice_given (λ entry bytes. entry ≡ entry_at c.args.shape.now bytes c.args.index) _ c.args.name.now c.args.format c.args.shape.now c.args.index c.args.source.now
    c.entry.new.self c.in_ok-entry.entry _ c.requires.stands bad (λ found is. is) c.in_ok-entry.ensures.given

pub returns-clause-given : goal.returns-clause-given
returns-clause-given g c =
    let good = advice_good c.args.shape.now c.args.index c.in_ok-entry.entry.advice c.is_advice.result c.is_advice.ensures c.if-not-is_advice.false in
    read_given _ c.args.name.now c.args.format c.args.shape.now c.args.index c.args.source.now c.entry.new.self c.in_ok-entry.entry c.requires.stands good c.in_ok-entry.ensures.given
