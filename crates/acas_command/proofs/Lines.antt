-- The error line in its parts.
use Rattle.std.proofs.Common.{◌≡◌, ℕ, List, Option, refl, ap, subst, ◌∙◌}
use Rattle.std.proofs.lemmas.List.{append-nil}
use Rattle.acas_command.specs.Called.{MayPrint}
use Rattle.acas_command.specs.ErrorLine.{AppendsLine, Reports, error_line, name_of}
use Rattle.acas_command.specs.LineParts.{line_head, line_of_parts, line_subject, line_tail}
use Rattle.acas_command.specs.declared.status.Cause.{Cause}
use Rattle.acas_command.specs.declared.status.Cause.TheVariants.{Done, Reported, Words, Absent, Model, Table, Input, Folder, Output, TooLong, Memory}
use Rattle.acas_doc.specs.declared.input_fault.InputFault.{InputFault}
use Rattle.acas_doc.specs.declared.input_fault.InputFault.TheVariants as input
use Rattle.acas_model.specs.declared.fault.ModelFault.{ModelFault}
use Rattle.acas_model.specs.declared.fault.ModelFault.TheVariants as fault

fault_line : (fault : ModelFault) (words : List (List ℕ)) → line_of_parts (line_head (Model fault)) (line_subject (Model fault) words) (line_tail (Model fault)) ≡ error_line (Model fault) words
fault_line fault.NotToml words = refl
fault_line (fault.Doc at) words = refl
fault_line (fault.Axis axis at) words = refl
fault_line (fault.Interval advisory) words = refl
fault_line (fault.NoChoice advisory) words = refl
fault_line (fault.UnknownName at) words = refl
fault_line (fault.RepeatedName at) words = refl
fault_line (fault.Weights total) words = refl
fault_line (fault.Window needed allowed) words = refl
fault_line (fault.TooManyEntries entries) words = refl
fault_line fault.Memory words = refl

refused_line : (fault : InputFault) (words : List (List ℕ)) → line_of_parts (line_head (Input fault)) (line_subject (Input fault) words) (line_tail (Input fault)) ≡ error_line (Input fault) words
refused_line input.NotToml words = refl
refused_line (input.Doc at) words = refl
refused_line (input.UnknownName place) words = refl
refused_line (input.Window place) words = refl
refused_line (input.Rate place) words = refl
refused_line input.Memory words = refl

pub line_of_its_parts : (cause : Cause) (words : List (List ℕ)) → line_of_parts (line_head cause) (line_subject cause words) (line_tail cause) ≡ error_line cause words
line_of_its_parts Done words = refl
line_of_its_parts Reported words = refl
line_of_its_parts Words words = refl
line_of_its_parts (Absent role) words = rw (append-nil (name_of role words)) refl
line_of_its_parts (Model fault) words = fault_line fault words
line_of_its_parts (Table refusal) words = refl
line_of_its_parts (Input fault) words = refused_line fault words
line_of_its_parts Folder words = refl
line_of_its_parts Output words = refl
line_of_its_parts (TooLong role) words = rw (append-nil (name_of role words)) refl
line_of_its_parts Memory words = refl

-- a line that was written in its parts
pub reports_parts : (cause : Cause) (words : List (List ℕ)) (head subject tail : List ℕ) (old new : Option (List ℕ)) (before after : ℕ) → ¬ MayPrint cause
    → head ≡ line_head cause → subject ≡ line_subject cause words → tail ≡ line_tail cause → AppendsLine (line_of_parts head subject tail) old new before after → Reports cause words old new before after
reports_parts cause words head subject tail old new before after undone is_head is_subject is_tail written = record {
  done = λ prints. absurd (undone prints);
  line = λ other.
      subst (λ (l : List ℕ). AppendsLine l old new before after) (
      ap (λ (l : List ℕ). line_of_parts l subject tail) is_head
      ∙ ap (λ (l : List ℕ). line_of_parts (line_head cause) l tail) is_subject
      ∙ ap (λ (l : List ℕ). line_of_parts (line_head cause) (line_subject cause words) l) is_tail
      ∙ line_of_its_parts cause words) written;
}
