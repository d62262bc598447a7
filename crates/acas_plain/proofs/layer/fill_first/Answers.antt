use Rattle.std.proofs.Common.{◌≡◌, ℕ, ◌<◌, ap, ◌∙◌, arith}
use Rattle.acas_spec.specs.Model.{GridData, states, vertices}
use Rattle.acas_units.specs.declared.pair.Entry.{Entry}
use Rattle.acas_process.specs.Compiled.{compiled}
use Rattle.acas_means.specs.Entries.{IsStateEntry}
use Rattle.acas_plain.proofs.Below.{below_one}
use Rattle.acas_sweep.proofs.Written.{entries_written}
use Rattle.acas_plain.proofs.layer.fill_first.Goals as goal

pub loop-state-preserved : goal.loop-state-preserved
loop-state-preserved c =
    let m = c.args.model.now in
    let s = c.loop-state.state in
    let width : c.vertices.result ≡ vertices m.grid = c.vertices.ensures.value ∙ ap (λ (g : GridData). vertices g) c.grid-in-loop-state.ensures.value in
    let entry = rw width at c.terminal_entry-entry.ensures in
    let here : s < states m.grid = omega (arith, c.states-state-end.ensures.value, ap (λ (g : GridData). states g) c.grid.ensures.value) in
    let P = λ (k : ℕ) (x : Entry). IsStateEntry m (compiled m) 0 k x in
    entries_written P c.loop-state.pairs c.loop-state.advice s c.terminal_entry-entry.result (omega arith) (omega arith) c.loop-state.invariant (record { upper = entry.upper; lower = entry.lower; advice = entry.advice })

pub returns : goal.returns
returns c =
    below_one c.args.model.now c.loop-state.pairs c.loop-state.advice
    (λ s h. c.loop-state.invariant s (omega (arith, c.states-state-end.ensures.value, ap (λ (g : GridData). states g) c.grid.ensures.value)))
