use Rattle.std.proofs.Common.{ℕ, ap, subst, arith, OnOk}
use Rattle.acas_table_text.specs.Faults.{model_fields, widths}
use Rattle.acas_table.specs.Source.{Steps}
use Rattle.acas_table.proofs.header.check_model.Goals as goal

pub check_all-requires-clause-limit : goal.check_all-requires-clause-limit
unfolding model_fields
check_all-requires-clause-limit g c = omega (arith, ap widths c.fields_of.ensures, c.requires.stands.place, c.requires.stands.limit)

pub returns-clause-steps : goal.returns-clause-steps
unfolding model_fields
returns-clause-steps g c = subst (λ (n : ℕ). OnOk c.check_all.result (Steps c.args.source.now c.check_all.new.self n)) (ap widths c.fields_of.ensures) c.check_all.ensures.steps
