use Rattle.acas_witness.proofs.danger_laws.shown_danger_endangers.Goals as goal

pub returns-clause-cells : goal.returns-clause-cells
returns-clause-cells c = λ m n i j k advisory w shown. (shown.q, shown.state, shown.response, shown.contact)

pub returns-clause-boxes : goal.returns-clause-boxes
returns-clause-boxes c = λ m box advisory w shown. (shown.q, shown.state, shown.response, shown.contact)
