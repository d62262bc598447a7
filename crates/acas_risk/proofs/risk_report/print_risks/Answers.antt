use Rattle.std.proofs.lemmas.Grind.{common_steps}
use Rattle.std.proofs.Common.{◌≡◌, ◌<◌, ◌++◌, List, ℕ, Option, ◌∙◌, ap, subst, arith, rules}
use Rattle.acas_spec.specs.Model.{GridData, states}
use Rattle.acas_outside.specs.Bytes.{AppendsPart}
use Rattle.acas_outside.proofs.Appended.{on_err_always}
use Rattle.acas_outside.specs.Printing.{Prints, below}
use Rattle.acas_outside.proofs.PrintedPieces.{part_of_below, prints_below}
use Rattle.acas_risk.specs.RiskText.{risk_line}
use Rattle.acas_risk.specs.Rows.{row_at}
use Rattle.acas_risk.proofs.Texts.{part_at_last, part_before_last, states_line}
use Rattle.acas_risk.proofs.risk_report.print_risks.Goals as goal

-- the same line, printed or cut
line_printed : (old new : Option (List ℕ)) (before after a b : List ℕ) → a ≡ b → Prints old new before after a → Prints old new before after b
line_printed old new before after a b same prints = subst (Prints old new before after) same prints

line_cut : (old new : Option (List ℕ)) (waits a b : List ℕ) → a ≡ b → AppendsPart old new (waits ++ a) → AppendsPart old new (waits ++ b)
line_cut old new waits a b same part = subst (λ (l : List ℕ). AppendsPart old new (waits ++ l)) same part

pub returns-in_err-print-clause-err : goal.returns-in_err-print-clause-err
returns-in_err-print-clause-err g c =
    let m = c.args.model.now in
    let here : c.loop-state.state < states m.grid = rw (← c.grid.ensures.value, ← c.states-states.ensures.value) c.loop-state-test.true in
    let line = c.bytes.ensures ∙ c.write_risk_line.ensures.value in
    on_err_always _ (part_before_last m (row_at c.args.values.now) _ _ c.args.pen.now.buffer c.requires.empty
    (part_of_below _ _ _ _ _ (λ s. risk_line m s (row_at c.args.values.now s)) c.loop-state.state _ here c.loop-state.invariant.printed
    (line_cut _ _ _ _ _ line c.in_err-print.ensures.err)))

pub loop-state-preserved : goal.loop-state-preserved
loop-state-preserved g c =
    let line = c.bytes.ensures ∙ c.write_risk_line.ensures.value in
    record {
      printed = prints_below _ _ _ _ _ _ (λ s. risk_line c.args.model.now s (row_at c.args.values.now s)) c.loop-state.state c.loop-state.invariant.printed
          (line_printed _ _ _ _ _ _ line c.in_ok-print.ensures.ok);
      frame = grind arith;
    }

pub returns-in_err-end-clause-err : goal.returns-in_err-end-clause-err
returns-in_err-end-clause-err g c =
    let m = c.args.model.now in
    let last : c.write_states_line.new.line ≡ states_line c.args.model.now = search rules in
    let all : c.loop-state.state ≡ states c.args.model.now.grid = omega (arith, c.states-states.ensures.value, ap (λ (h : GridData). states h) c.grid.ensures.value) in
    let lines = subst (λ (n : ℕ). Prints (g.S.Sink.written c.args.sink.now) (g.S.Sink.written c.loop-state.sink) c.args.pen.now.buffer c.loop-state.pen.buffer (below n (λ s. risk_line m s (row_at c.args.values.now s)))) all c.loop-state.invariant.printed in
    on_err_always _
    (part_at_last c.args.model.now (row_at c.args.values.now) _ _ _ c.args.pen.now.buffer c.loop-state.pen.buffer _ c.requires.empty last lines c.in_err-end.ensures.err)

pub returns-clause-ok : goal.returns-clause-ok
returns-clause-ok g c = grind (arith, common_steps)
