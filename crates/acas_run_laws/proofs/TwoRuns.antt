-- A table that is stored in one run and checked or migrated in another, or checked in one and audited in another.
use Rattle.std.proofs.Common.{◌≡◌, ℕ, List, Option, Some, sym, ap, subst, ◌∙◌, inl}
use Rattle.std.specs.Prelude.{IfSome, IsSomeAnd}
use Rattle.std.specs.FinMap.{get, insert}
use Rattle.sha2.specs.Sha256.{sha256}
use Rattle.acas_outside.specs.Files.{Files}
use Rattle.acas_outside.specs.Outside.{Outside}
use Rattle.acas_outside.proofs.Inserted.{get-insert_other, get-insert_same}
use Rattle.acas_table_text.specs.Format.{format_of}
use Rattle.acas_table_text.specs.Layers.{layers_of, table_text}
use Rattle.acas_table_text.specs.Shape.{shape_of}
use Rattle.acas_table_text.specs.declared.format.Format.{Format}
use Rattle.acas_table_text.specs.declared.format.Format.TheVariants.{Layered}
use Rattle.acas_table_text_laws.proofs.TextFormats.{format-text}
use Rattle.acas_command.specs.Worth.{IsDoneUnlessFailed, IsNotRefused}
use Rattle.acas_command.specs.declared.status.Cause.{Cause}
use Rattle.acas_command.specs.declared.status.Cause.TheVariants.{Done}
use Rattle.acas_report_lines.specs.declared.counts.Which.{Which}
use Rattle.acas_cell_commands.specs.AuditWorth.{AuditIsWorth}
use Rattle.acas_table_commands.specs.Worth.{CompileIsWorth}
use Rattle.acas_check_commands.specs.Worth.{CheckIsWorth, MigrateIsWorth, MigratesTable}
use Rattle.acas_cli.specs.Headline.{Headline}
use Rattle.acas_cli_words.specs.Words.{Audit, Check, Compile, Migrate}

pub stored-accepted : (model table : List ℕ) (files : Files) (cause : Cause) (before between again after : Outside) → (model ≡ table → ⊥) → before.holds ≡ Some files
    → Headline (Some (Compile model table)) Done before between → again.holds ≡ between.holds → Headline (Some (Check model table)) cause again after → IsDoneUnlessFailed cause again after
stored-accepted model table files cause before between again after apart told compiled kept checked =
    let stored : CompileIsWorth model table files Done before between =
    subst (λ (o : Option Files). IfSome o (λ fs. CompileIsWorth model table fs Done before between)) told compiled in
    let t = stored.stored (inl tt) in
    let text : List ℕ = table_text Layered (sha256 t.bytes) t.m.grid t.t in
    let now : Files = insert files table text in
    let worth : CheckIsWorth model table now cause again after =
    subst (λ (o : Option Files). IfSome o (λ fs. CheckIsWorth model table fs cause again after)) (kept ∙ t.stored) checked in
    worth.not_refused t.m t.t (record {
      bytes = t.bytes;
      given = text;
      says = record { file = get-insert_other files table text model apart ∙ t.made.says.file; short = t.made.says.short; text = t.made.says.text };
      file = get-insert_same files table text;
      accepted = t.accepted;
    })

pub accepted-audited : (model table : List ℕ) (which : Which) (files : Files) (cause : Cause) (before between again after : Outside) → before.holds ≡ Some files
    → Headline (Some (Check model table)) Done before between → again.holds ≡ Some files → Headline (Some (Audit model table which)) cause again after → IsNotRefused cause again after
accepted-audited model table which files cause before between again after told checked kept audited =
    let worth : CheckIsWorth model table files Done before between =
    subst (λ (o : Option Files). IfSome o (λ fs. CheckIsWorth model table fs Done before between)) told checked in
    let t = worth.accepted tt in
    let audits : AuditIsWorth model table which files cause again after =
    subst (λ (o : Option Files). IfSome o (λ fs. AuditIsWorth model table which fs cause again after)) kept audited in
    audits.not_refused t.m t.t t.says

-- what a run of `migrate` has stored, where the files are told
migrates : (model table target : List ℕ) (files : Files) (before after : Outside) → before.holds ≡ Some files → Headline (Some (Migrate model table target)) Done before after
    → MigratesTable model table target files Done before after
migrates model table target files before after told headline =
    let worth : MigrateIsWorth model table target files Done before after =
    subst (λ (o : Option Files). IfSome o (λ fs. MigrateIsWorth model table target fs Done before after)) told headline in
    worth.stored (inl tt)

pub migrated-accepted : (model table target : List ℕ) (files : Files) (cause : Cause) (before between again after : Outside) → (model ≡ target → ⊥) → before.holds ≡ Some files
    → Headline (Some (Migrate model table target)) Done before between → again.holds ≡ between.holds → Headline (Some (Check model target)) cause again after → IsDoneUnlessFailed cause again after
migrated-accepted model table target files cause before between again after apart told migrated kept checked =
    let t = migrates model table target files before between told migrated in
    let text : List ℕ = table_text Layered (sha256 t.says.bytes) t.m.grid t.t in
    let now : Files = insert files target text in
    let worth : CheckIsWorth model target now cause again after =
    subst (λ (o : Option Files). IfSome o (λ fs. CheckIsWorth model target fs cause again after)) (kept ∙ t.stored) checked in
    worth.not_refused t.m t.t (record {
      bytes = t.says.bytes;
      given = text;
      says = record { file = get-insert_other files target text model apart ∙ t.says.says.file; short = t.says.says.short; text = t.says.says.text };
      file = get-insert_same files target text;
      accepted = t.migrated;
    })

-- a run of `migrate` whose table is in version 2 already stores it again
again-same : (model table target text : List ℕ) (files : Files) (before after : Outside) → get files table ≡ Some text → format_of text ≡ Layered
    → MigratesTable model table target files Done before after → IsSomeAnd after.holds (λ now. get now target ≡ Some text)
again-same model table target text files before after there layered t =
    let s = t.says in
    let f : Format = s.accepted.format in
    let both = sym s.file ∙ there in
    let given : s.given ≡ text = cc both in
    let is : f ≡ Layered = sym (format-text f (sha256 s.bytes) (shape_of t.m.grid) (layers_of t.m.grid t.t)) ∙ ap format_of (sym s.accepted.text ∙ given) ∙ layered in
    let same : table_text Layered (sha256 s.bytes) t.m.grid t.t ≡ text = ap (λ (g : Format). table_text g (sha256 s.bytes) t.m.grid t.t) (sym is) ∙ sym s.accepted.text ∙ given in
    subst (λ (o : Option Files). IsSomeAnd o (λ now. get now target ≡ Some text)) (sym t.stored)
    (get-insert_same files target (table_text Layered (sha256 s.bytes) t.m.grid t.t) ∙ ap (λ (l : List ℕ). Some l) same)

-- what was stored is in version 2
stored-text : (files : Files) (name stored text : List ℕ) (now : Option Files) → now ≡ Some (insert files name stored) → IsSomeAnd now (λ fs. get fs name ≡ Some text) → stored ≡ text
stored-text files name stored text now is held =
    let there : get (insert files name stored) name ≡ Some text = subst (λ (o : Option Files). IsSomeAnd o (λ fs. get fs name ≡ Some text)) is held in
    let both = sym (get-insert_same files name stored) ∙ there in
    cc both

pub compiled-again : (model table target text : List ℕ) (files : Files) (before between again after : Outside) → before.holds ≡ Some files → Headline (Some (Compile model table)) Done before between
    → again.holds ≡ between.holds → Headline (Some (Migrate model table target)) Done again after → IsSomeAnd between.holds (λ now. get now table ≡ Some text)
    → IsSomeAnd after.holds (λ now. get now target ≡ Some text)
compiled-again model table target text files before between again after told compiled kept migrated held =
    let stored : CompileIsWorth model table files Done before between =
    subst (λ (o : Option Files). IfSome o (λ fs. CompileIsWorth model table fs Done before between)) told compiled in
    let t = stored.stored (inl tt) in
    let first : List ℕ = table_text Layered (sha256 t.bytes) t.m.grid t.t in
    let same : first ≡ text = stored-text files table first text between.holds t.stored held in
    again-same model table target text (insert files table first) again after (get-insert_same files table first ∙ ap (λ (l : List ℕ). Some l) same)
    (ap format_of (sym same) ∙ format-text Layered (sha256 t.bytes) (shape_of t.m.grid) (layers_of t.m.grid t.t))
    (migrates model table target (insert files table first) again after (kept ∙ t.stored) migrated)

pub migrated-again : (model table target last text : List ℕ) (files : Files) (before between again after : Outside) → before.holds ≡ Some files
    → Headline (Some (Migrate model table target)) Done before between → again.holds ≡ between.holds → Headline (Some (Migrate model target last)) Done again after
    → IsSomeAnd between.holds (λ now. get now target ≡ Some text) → IsSomeAnd after.holds (λ now. get now last ≡ Some text)
migrated-again model table target last text files before between again after told migrated kept twice held =
    let t = migrates model table target files before between told migrated in
    let first : List ℕ = table_text Layered (sha256 t.says.bytes) t.m.grid t.t in
    let same : first ≡ text = stored-text files target first text between.holds t.stored held in
    again-same model target last text (insert files target first) again after (get-insert_same files target first ∙ ap (λ (l : List ℕ). Some l) same)
    (ap format_of (sym same) ∙ format-text Layered (sha256 t.says.bytes) (shape_of t.m.grid) (layers_of t.m.grid t.t))
    (migrates model target last (insert files target first) again after (kept ∙ t.stored) twice)
