use Rattle.std.proofs.Common.{◌≡◌, false, sym, ap, ◌∙◌, arith}
use Rattle.acas_rulings.specs.MeetingView.{may_of}
use Rattle.acas_rulings.specs.Boxes.{AuditedBox, box_at}
use Rattle.acas_boxes.specs.Rates.{are_within}
use Rattle.acas_boxes.proofs.Fitting.{all_fit, first_unfit, outside_unfit}
use Rattle.acas_boxes.proofs.rates.rates_fit.Goals as goal

pub returns-then-not-are_within-clause-value : goal.returns-then-not-are_within-clause-value
returns-then-not-are_within-clause-value c =
    let may = may_of c.args.may.now in
    let here : are_within may (box_at c.args.boxes.now c.loop-place.place).states.intruder ≡ false =
    sym (ap (λ (b : AuditedBox). are_within may b.states.intruder) c.at.ensures) ∙ sym c.are_within.ensures ∙ c.if-not-are_within.true in
    sym (first_unfit may c.args.boxes.now c.loop-place.place (record {
      there = omega arith;
      unfit = outside_unfit may (box_at c.args.boxes.now c.loop-place.place).states.intruder here;
      before = c.loop-place.invariant.before;
    }))

pub returns-clause-value : goal.returns-clause-value
returns-clause-value c =
    sym (all_fit (may_of c.args.may.now) c.args.boxes.now (record { each = λ place l. c.loop-place.invariant.before place (omega (arith, l)) }))
