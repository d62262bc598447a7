use Rattle.std.proofs.Common.{◌≡◌, ◌↔◌, sym, ◌∙◌, arith, Bool, false, IsTrue, pos}
use Rattle.std.proofs.lemmas.Bool.{false≢true}
use Rattle.acas_spec.specs.Model.{choices_at}
use Rattle.acas_spec.specs.declared.parts.Choice.{Choice}
use Rattle.acas_flight.specs.Clear.{IsClear}
use Rattle.acas_flight.specs.Response.{demand_of}
use Rattle.acas_areas.specs.View.{area_of, times_of}
use Rattle.acas_safeable.proofs.Firsts.{first_here, passed_all, passed_more}
use Rattle.acas_safeable.proofs.finding.first_clear.Goals as goal
use Rattle.acas_safeable.proofs.finding.first_clear.Goals.{else-choice-ne0-via-then-choice-ne0+else-is_clear, else-choice-ne0-via-else-choice-ne0}

abbrev none : Choice
none = record { advisory = 0; cost = pos 0 }

not_so : {P : Type 0} (r : Bool) → IsTrue r ↔ P → r ≡ false → ¬ P
not_so r exact f = λ p. absurd (false≢true (sym f ∙ exact.1 p))

pub returns-then-is_clear : goal.returns-then-is_clear
returns-then-is_clear c =
    let m = c.args.model.now in
    first_here (λ a. IsClear m.half (demand_of m a) (area_of c.args.area.now) (times_of c.args.window.now)) none c.choices-choice-items.result.now (choices_at m 0) c.loop-choice.choice-index
    c.choices-choice-items.ensures c.loop-choice.invariant (omega (arith, c.loop-choice-test.true)) c.if-choice-ne0.true (c.is_clear.ensures.exact.0 c.if-is_clear.true)

pub loop-choice-preserved : goal.loop-choice-preserved
loop-choice-preserved c =
    let m = c.args.model.now in
    passed_more (λ a. IsClear m.half (demand_of m a) (area_of c.args.area.now) (times_of c.args.window.now)) none c.choices-choice-items.result.now (choices_at m 0) c.loop-choice.choice-index
    c.choices-choice-items.ensures c.loop-choice.invariant
    (elim c.else-choice-ne0.branch [
      | else-choice-ne0-via-then-choice-ne0+else-is_clear w ↦ λ other. not_so w.is_clear.result w.is_clear.ensures.exact w.if-is_clear.false
      | else-choice-ne0-via-else-choice-ne0 w ↦ λ other. absurd (other w.if-choice-ne0.false)
    ])

pub returns : goal.returns
returns c =
    let m = c.args.model.now in
    passed_all (λ a. IsClear m.half (demand_of m a) (area_of c.args.area.now) (times_of c.args.window.now)) none c.choices-choice-items.result.now (choices_at m 0) c.loop-choice.choice-index
    c.choices-choice-items.ensures c.loop-choice.invariant (omega (arith, c.loop-choice-test.false))
