use Rattle.std.proofs.Common.{ℕ}
use Rattle.acas_spec.specs.Model.{ModelData}
use Rattle.acas_flight.specs.Contact.{IsEndangered}
use Rattle.acas_flight.specs.State.{State}
use Rattle.acas_rulings.specs.declared.flight.Witness.{Witness}
use Rattle.acas_rulings.specs.Rulings.{ShowsDanger}
use Rattle.acas_run_laws.proofs.verdicts.verdicts_tell_danger.Goals as goal

shown : (m : ModelData) (advisory : ℕ) (IsIn : ℕ → State → Type 0) (w : Witness) (h : ShowsDanger m advisory IsIn w) → IsEndangered m advisory IsIn
shown m advisory IsIn w h = (h.q, h.state, _, h.contact)

pub returns : goal.returns
returns c = record {
  certified_cell = λ m name h. h;
  reported_cell = λ m name w h. shown m name.advice _ w h;
  certified_box = λ m boxes place h. h;
  reported_box = λ m boxes place w h. shown m _ _ w h;
  certified_meeting = λ m may boxes place h. h;
  reported_meeting = λ m may boxes place w h. (h.q, h.state, h.response, h.flight, h.meeting);
}
