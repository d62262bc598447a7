-- What `risk` goes on with behind its files.
use Rattle.std.proofs.Common.{◌≡◌, ℕ, List, Option, ap, sym, ◌∙◌, arith}
use Rattle.std.specs.Prelude.{IfSome}
use Rattle.std.specs.FinMap.{get}
use Rattle.acas_spec.specs.Limits.{IsModel}
use Rattle.acas_spec.specs.Model.{ModelData}
use Rattle.acas_grid.specs.Grid.{state_number, vertex_number}
use Rattle.acas_base.specs.Advices.{AdvicesData}
use Rattle.acas_outside.specs.Files.{Files, Given}
use Rattle.acas_policies.proofs.BoundLaws.{says_advisories, sound_policy}
use Rattle.acas_means.proofs.NumberedStates.{state_number-below}
use Rattle.acas_accept.specs.Accepted.{IsAcceptedTable}
use Rattle.acas_accept.specs.GivenTable.{given_table}
use Rattle.acas_accept.proofs.Tables.{given_is_accepted}
use Rattle.acas_command.specs.ModelFile.{IsModelFile}
use Rattle.acas_command.specs.Outcome.{Outcome, prints}
use Rattle.acas_command.proofs.Behind.{told-both}
use Rattle.acas_command.proofs.Files.{with_model-file}
use Rattle.acas_command.proofs.Says.{file-says}
use Rattle.acas_table_file.specs.AcceptedFile.{IsTableFile}
use Rattle.acas_table_file.specs.Calls.{with_table}
use Rattle.acas_table_file.proofs.Files.{with_table-accepted}
use Rattle.acas_risk.specs.Plans.{advised}
use Rattle.acas_risk.specs.RiskText.{risk_text}
use Rattle.acas_risk_commands.specs.Calls.{risk_of}
use Rattle.acas_risk_commands.proofs.SameText.{same-text}

-- what `risk` goes on with, behind the table and behind the model
abbrev pub text_of_risk : ModelData → List ℕ → Outcome
text_of_risk m bytes = prints (risk_text m (given_table m.grid bytes).advice)

abbrev pub rest_of_risk : Option (List ℕ) → List ℕ → ModelData → Outcome
rest_of_risk file digest m = with_table m digest file (text_of_risk m)

-- the text of an accepted table is that of the advices which are read from it
advised_text : (m : ModelData) (digest : List ℕ) (file : Option (List ℕ)) (advices : AdvicesData) → IsModel m → IsTableFile m digest file advices
    → with_table m digest file (text_of_risk m) ≡ prints (risk_text m (advised m advices))
advised_text m digest file advices v is =
    let bytes : List ℕ = is.bytes in
    let t = given_table m.grid bytes in
    let accepted : IsAcceptedTable m digest bytes t = given_is_accepted m digest bytes v is.whole is.accepted in
    ap (λ (f : Option (List ℕ)). with_table m digest f (text_of_risk m)) is.there
    ∙ with_table-accepted m digest bytes (text_of_risk m) is.accepted
    ∙ ap (λ (text : List ℕ). prints text)
    (same-text m t.advice (advised m advices) (says_advisories m t.advice v (sound_policy m t accepted.sound))
    (λ n p x at some. sym (is.held.each n (state_number m.grid p (vertex_number m.grid x)) (omega (arith, some)) at.seconds (state_number-below m.grid p x at.present at.vertex))))

pub called-risk : (holds : Option Files) (model table digest : List ℕ) (m : ModelData) (advices : AdvicesData) → Given holds model (λ file. IsModelFile file digest m)
    → Given holds table (λ file. IsTableFile m digest file advices) → IfSome holds (λ files. prints (risk_text m (advised m advices)) ≡ risk_of (get files model) (get files table))
called-risk holds model table digest m advices read accepted = told-both holds _ _ _
    (λ files is is_table.
    sym (with_model-file (get files model) digest m (rest_of_risk (get files table)) is
    ∙ advised_text m digest (get files table) advices (file-says files model digest m is).text.within is_table)) read accepted
