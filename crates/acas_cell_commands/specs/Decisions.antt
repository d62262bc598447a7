-- How many decisions of blocks an audit counts.
use Rattle.std.specs.Prelude.{◌≡◌, ℕ, ◌+◌, List, Option, IfSome}
use Rattle.acas_spec.specs.Limits.{IsModel}
use Rattle.acas_spec.specs.Model.{ModelData}
use Rattle.acas_base.specs.Advices.{AdvicesData, AreAdvicesOf}
use Rattle.acas_outside.specs.Files.{Files}
use Rattle.acas_audit_blocks.specs.Decisions.{AreAuditsDecisions}
use Rattle.acas_command.specs.Answers.{EndsLooking}
use Rattle.acas_command.specs.Called.{MayPrint}
use Rattle.acas_command.specs.declared.status.Cause.{Cause}
use Rattle.acas_table_file.specs.AcceptedFile.{IsTableOf}

-- Over every folder: the count rose by the whole number of decisions of some model within its limits and of some advices of it. Where the
-- files are told, these are the model and the accepted table's advices.
pub record CountsDecisions (model table : List ℕ) (holds : Option Files) (old new : ℕ) : Type 0 where
  pub m : ModelData
  pub advices : AdvicesData
  pub within : IsModel m
  pub fits : AreAdvicesOf m advices
  pub advised : IfSome holds (λ files. IsTableOf model table files m advices)
  pub number : ℕ
  pub decided : AreAuditsDecisions m advices number
  pub raised : new ≡ old + number

-- where the whole report is out, the count rose by that number, and an audit that ended as it looked at its files, or for want of memory,
-- has counted nothing
pub record CountsAudit (model table : List ℕ) (holds : Option Files) (cause : Cause) (old new : ℕ) : Type 0 where
  pub decided : MayPrint cause → CountsDecisions model table holds old new
  pub unmoved : EndsLooking cause → new ≡ old
