use Rattle.std.proofs.Common.{◌≡◌, ◌<◌, ◌^◌, ap, sym, ◌∙◌, arith}
use Rattle.std.proofs.lemmas.Slice.Eq.{bytes_eq-Decides}
use Rattle.std.specs.Fmt.{decimal}
use Rattle.acas_drill_model.proofs.Words.{names, names-none, parsed}
use Rattle.acas_drill_model.proofs.word.number_within.Goals as goal
use Rattle.acas_drill_model.proofs.word.number_within.Goals.{else-least-number-via-then-least-number+then-number-greatest+else-eq, else-least-number-via-then-least-number+else-number-greatest, else-least-number-via-else-least-number}

pub returns-in_default : goal.returns-in_default
returns-in_default c =
    sym (names-none c.args.least c.args.greatest c.args.word.now (λ k named.
    let small : k < 2 ^ 32 = omega (arith, named.high, c.ranges.greatest.fits) in
    let is = parsed c.args.word.now k c.parse.result small named.text c.parse.ensures.value.0 in
    absurd (cc (is, c.in_default.is))))

pub returns-then-eq : goal.returns-then-eq
returns-then-eq c =
    let same = (bytes_eq-Decides c.format.result.now c.args.word.now).0 (sym c.eq.ensures ∙ c.if-eq.true) in
    let small : c.in-Ok.number < 2 ^ 32 = omega (arith, c.if-number-greatest.true, c.ranges.greatest.fits) in
    sym (names c.args.least c.args.greatest c.args.word.now c.in-Ok.number small
    (record { low = c.if-least-number.true; high = c.if-number-greatest.true; text = sym same ∙ c.format.ensures.text }))

pub returns-else-least-number : goal.returns-else-least-number
returns-else-least-number c =
    sym (names-none c.args.least c.args.greatest c.args.word.now (λ k named.
    let small : k < 2 ^ 32 = omega (arith, named.high, c.ranges.greatest.fits) in
    let is = parsed c.args.word.now k c.parse.result small named.text c.parse.ensures.value.0 in
    let same : c.in-Ok.number ≡ k = cc (is, c.in-Ok.is) in
    elim c.else-least-number.branch [
      | else-least-number-via-then-least-number+then-number-greatest+else-eq w ↦
          let equal = (bytes_eq-Decides w.format.result.now c.args.word.now).1 (w.format.ensures.text ∙ ap decimal same ∙ sym named.text) in
          absurd (cc (w.if-eq.false, w.eq.ensures, equal))
      | else-least-number-via-then-least-number+else-number-greatest w ↦ absurd (omega (arith, same, named.high, w.if-number-greatest.false))
      | else-least-number-via-else-least-number w ↦ absurd (omega (arith, same, named.low, w.if-least-number.false))
    ]))
