-- The advices of the text of a compiled table are those of that table, and that text is held where it was stored.
use Rattle.std.proofs.Common.{◌≡◌, ℕ, List, length, Option, None, Some, Result, Ok, Err, ◌∙◌, ap, subst}
use Rattle.std.specs.FinMap.{get, insert}
use Rattle.acas_spec.specs.Limits.{IsModel}
use Rattle.acas_spec.specs.Model.{ModelData}
use Rattle.acas_base.specs.Advices.{AdvicesData}
use Rattle.acas_grid.specs.Grid.{state_number, vertex_number}
use Rattle.acas_outside.specs.Files.{Files, Stores}
use Rattle.acas_outside.proofs.Inserted.{get-insert_same}
use Rattle.acas_process.specs.Compiled.{compiled}
use Rattle.acas_means.proofs.NumberedStates.{state_number-below}
use Rattle.acas_accept.specs.Answers.{Accepts, HasAdvices}
use Rattle.acas_accept.specs.Refusals.{first_refusal}
use Rattle.acas_accept.specs.declared.refusal.AcceptFault.{AcceptFault}
use Rattle.acas_accept.specs.declared.refusal.AcceptFault.TheVariants.{Refused}
use Rattle.acas_accept.proofs.CompiledTables.{compiled_is_accepted}
use Rattle.acas_accept.proofs.Tables.{accepted_has_none}
use Rattle.acas_accept.proofs.Written.{is_table, read_again}
use Rattle.acas_table_text.specs.declared.format.Format.TheVariants.{Layered}
use Rattle.acas_table_text.specs.declared.refusal.TableRefusal.{TableRefusal}
use Rattle.acas_table_rows.specs.TableFile.{compiled_text}
use Rattle.acas_table_file.specs.Worth.{AreTabled}

tabled : (m : ModelData) (digest : List ℕ) (advices : AdvicesData) → IsModel m → length digest ≡ 32 → HasAdvices m (compiled_text digest m) advices → AreTabled m (compiled m) advices
tabled m digest advices within long held =
    let accepted = compiled_is_accepted m Layered digest within in
    let same = read_again m Layered digest (compiled m) (is_table m digest (compiled m) within long accepted.writable accepted.sound) in
    record {
      each = λ n p x some entry.
          held.each n (state_number m.grid p (vertex_number m.grid x)) some entry.seconds (state_number-below m.grid p x entry.present entry.vertex)
          ∙ same.advice n p x entry;
    }

-- what is stored under a name is held there
pub held : (before after : Files) (name bytes : List ℕ) → Stores (Some before) (Some after) name bytes → get after name ≡ Some bytes
held before after name bytes stored =
    let same : after ≡ insert before name bytes = cc stored in
    ap (λ (files : Files). get files name) same ∙ get-insert_same before name bytes

-- the text of the compiled table has no refusal
compiled-none : (m : ModelData) (digest : List ℕ) → IsModel m → length digest ≡ 32 → first_refusal m digest (compiled_text digest m) ≡ None
compiled-none m digest within long = accepted_has_none m digest (compiled_text digest m) (compiled m) within long (compiled_is_accepted m Layered digest within)

-- what is answered of a file that holds it
module _ (m : ModelData) (digest : List ℕ) (file : Option (List ℕ)) (there : file ≡ Some (compiled_text digest m)) (within : IsModel m) (long : length digest ≡ 32) where
  accepts : (r s : Result AdvicesData AcceptFault) → Accepts m digest file r → r ≡ s → Accepts m digest (Some (compiled_text digest m)) s
  accepts r s answered is = subst (Accepts m digest (Some (compiled_text digest m))) is (subst (λ (f : Option (List ℕ)). Accepts m digest f r) there answered)

  pub never_refused : (r : Result AdvicesData AcceptFault) (refusal : TableRefusal) → Accepts m digest file r → r ≡ Err (Refused refusal) → ⊥
  never_refused r refusal answered is =
      let some : first_refusal m digest (compiled_text digest m) ≡ Some refusal = accepts r (Err (Refused refusal)) answered is in
      let none = compiled-none m digest within long in
      absurd (cc (some, none))

  pub accepted_tabled : (r : Result AdvicesData AcceptFault) (advices : AdvicesData) → Accepts m digest file r → r ≡ Ok advices → AreTabled m (compiled m) advices
  accepted_tabled r advices answered is =
      let has = accepts r (Ok advices) answered is in
      tabled m digest advices within long has.2
