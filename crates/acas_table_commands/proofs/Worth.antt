-- What the answers of the commands on tables are worth.
use Rattle.std.proofs.Common.{◌≡◌, ℕ, List, Some, ⊎_elim, refl, sym, ap, subst, ◌∙◌}
use Rattle.std.specs.Prelude.{IfSome}
use Rattle.std.specs.FinMap.{get}
use Rattle.sha2.specs.Sha256.{sha256}
use Rattle.acas_spec.specs.Model.{ModelData}
use Rattle.acas_outside.specs.Bytes.{Appends}
use Rattle.acas_outside.specs.Files.{Files}
use Rattle.acas_outside.specs.Outside.{Outside}
use Rattle.acas_process.specs.Compiled.{compiled}
use Rattle.acas_policies.proofs.BoundLaws.{two_sided_bounds}
use Rattle.acas_policies.proofs.CompiledBounds.{compiled_is_sound, compiled_is_tight}
use Rattle.acas_table_text.specs.declared.format.Format.TheVariants.{Layered}
use Rattle.acas_accept.proofs.CompiledTables.{compiled_is_accepted}
use Rattle.acas_command.specs.Answers.{Agrees, Answers, Completes}
use Rattle.acas_command.specs.Called.{MayPrint, PrintsPart}
use Rattle.acas_command.specs.Outcome.{Outcome, prints, stores, with_file}
use Rattle.acas_command.specs.declared.status.Cause.{Cause}
use Rattle.acas_command.specs.declared.status.Cause.TheVariants.{Output}
use Rattle.acas_command.proofs.Behind.{told-map}
use Rattle.acas_command.proofs.Completed.{completed, prints-part_of_line, prints-whole_line}
use Rattle.acas_command.proofs.Refused.{behind-model, done_unless_failed, no_file_cause-may_print}
use Rattle.acas_command.proofs.Says.{read-model, says-model}
use Rattle.acas_command.specs.Says.{SaysModel}
use Rattle.acas_command.specs.Worth.{PrintsLine}
use Rattle.acas_table_commands.specs.Calls.{CallsForCompile, CallsForValues, compile_of, values_of}
use Rattle.acas_table_rows.specs.StoredLine.{compiled_line}
use Rattle.acas_table_rows.specs.TableFile.{compiled_text}
use Rattle.acas_table_rows.specs.ValuesText.{values_text}
use Rattle.acas_table_commands.specs.Worth.{CompileIsWorth, IsTightTableOf, PrintsTable, StoresTable, ValuesIsWorth}

-- the compiled table of a model that a file says
compiled-tight : (model : List ℕ) (files : Files) (bytes : List ℕ) (m : ModelData) → SaysModel files model bytes m → IsTightTableOf model files bytes m (compiled m)
compiled-tight model files bytes m says = record {
  says = says;
  bounds = two_sided_bounds m (compiled m) says.text.within (compiled_is_sound m says.text.within);
  tight = compiled_is_tight m says.text.within;
}

-- what `values` goes on with
abbrev pub rest_of_values : List ℕ → ModelData → Outcome
rest_of_values digest m = prints (values_text m)

prints-table : (model : List ℕ) (files : Files) (cause : Cause) (before after : Outside) → MayPrint cause → Completes (CallsForValues model) files cause before after
    → PrintsTable model files before after
unfolding values_text
prints-table model files cause before after prints a =
    let done : MayPrint (values_of (get files model)).cause = subst (λ (o : Outcome). MayPrint o.cause) a.may (subst MayPrint (sym a.ends) prints) in
    let b = behind-model (get files model) rest_of_values (no_file_cause-may_print _ done) in
    let says : SaysModel files model b.bytes b.m = says-model files model rest_of_values b in
    record {
      bytes = b.bytes;
      m = b.m;
      t = compiled b.m;
      made = compiled-tight model files b.bytes b.m says;
      printed = subst (λ (o : Outcome). Appends before.written after.written o.output) (a.may ∙ b.is) a.printed;
      kept = subst (λ (o : Outcome). after.holds ≡ Some (with_file o.file files)) (a.may ∙ b.is) a.stored;
    }

pub values-worth : (model : List ℕ) (cause : Cause) (before after : Outside) → Answers (CallsForValues model) cause before after
    → IfSome before.holds (λ files. ValuesIsWorth model files cause before after)
values-worth model cause before after answers =
    told-map before.holds _ _ (λ files agrees. record {
      printed = λ may. prints-table model files cause before after may (completed (CallsForValues model) files cause before after may agrees);
      not_refused = λ bytes m says.
          done_unless_failed (CallsForValues model) files cause before after
          (λ o called. ap (λ (p : Outcome). p.cause) (called ∙ read-model files model bytes m rest_of_values says)) answers.has_cause agrees;
    }) answers.told

-- what `compile` goes on with
abbrev pub rest_of_compile : List ℕ → List ℕ → ModelData → Outcome
rest_of_compile table digest m = stores table (compiled_text digest m) (compiled_line m.grid)

stores-table : (model table : List ℕ) (files : Files) (cause : Cause) (before after : Outside) (o : Outcome) → o ≡ compile_of (get files model) table → MayPrint o.cause
    → after.holds ≡ Some (with_file o.file files) → PrintsLine cause before after o.output → StoresTable model table files cause before after
stores-table model table files cause before after o called prints stored line =
    let done : MayPrint (compile_of (get files model) table).cause = subst (λ (p : Outcome). MayPrint p.cause) called prints in
    let b = behind-model (get files model) (rest_of_compile table) (no_file_cause-may_print _ done) in
    let says : SaysModel files model b.bytes b.m = says-model files model (rest_of_compile table) b in
    record {
      bytes = b.bytes;
      m = b.m;
      t = compiled b.m;
      made = compiled-tight model files b.bytes b.m says;
      accepted = compiled_is_accepted b.m Layered (sha256 b.bytes) says.text.within;
      stored = subst (λ (p : Outcome). after.holds ≡ Some (with_file p.file files)) (called ∙ b.is) stored;
      line = subst (λ (p : Outcome). PrintsLine cause before after p.output) (called ∙ b.is) line;
    }

stores-done : (model table : List ℕ) (files : Files) (cause : Cause) (before after : Outside) → MayPrint cause → Completes (CallsForCompile model table) files cause before after
    → StoresTable model table files cause before after
stores-done model table files cause before after prints a =
    stores-table model table files cause before after a.outcome a.may (subst MayPrint (sym a.ends) prints) a.stored (prints-whole_line cause before after a.outcome.output prints a.printed)

stores-output : (model table : List ℕ) (files : Files) (cause : Cause) (before after : Outside) → cause ≡ Output → PrintsPart (compile_of (get files model) table) files before after
    → StoresTable model table files cause before after
stores-output model table files cause before after is a =
    stores-table model table files cause before after _ refl a.prints a.stored (prints-part_of_line cause before after (compile_of (get files model) table).output is a.printed)

pub compile-worth : (model table : List ℕ) (cause : Cause) (before after : Outside) → Answers (CallsForCompile model table) cause before after
    → IfSome before.holds (λ files. CompileIsWorth model table files cause before after)
compile-worth model table cause before after answers =
    told-map before.holds _ _ (λ files agrees. record {
      stored = λ either. ⊎_elim
          (λ (may : MayPrint cause). stores-done model table files cause before after may (completed (CallsForCompile model table) files cause before after may agrees))
          (λ (is : cause ≡ Output). stores-output model table files cause before after is (subst (λ (c : Cause). Agrees (CallsForCompile model table) files c before after) is agrees)) either;
      not_refused = λ bytes m says.
          done_unless_failed (CallsForCompile model table) files cause before after
          (λ o called. ap (λ (p : Outcome). p.cause) (called ∙ read-model files model bytes m (rest_of_compile table) says)) answers.has_cause agrees;
    }) answers.told
