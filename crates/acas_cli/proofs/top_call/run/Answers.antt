use Rattle.std.proofs.Common.{IsTrue, map, subst, sym, ◌∙◌}
use Rattle.std.specs.Prelude.{string_bytes}
use Rattle.acas_outside.specs.Outside.{Outside, outside}
use Rattle.acas_command.specs.declared.status.Cause.{Cause}
use Rattle.acas_cli.specs.Calls.{AnswersCall}
use Rattle.acas_cli_words.specs.Forms.{form_of_command}
use Rattle.acas_cli_words.specs.Words.{Form}
use Rattle.acas_cli_words.proofs.KnownForms.{known_form}
use Rattle.acas_cli.proofs.NeverWords.{never_words}
use Rattle.acas_cli.proofs.top_call.run.Goals as goal

pub answer-cause-requires : goal.answer-cause-requires
answer-cause-requires g c =
    let known = known_form (λ name. IsTrue (g.F.Folder.serves c.args.folder.now name)) (map string_bytes c.args.words.now) (form_of_command c.in-Some.command) c.in-Some.ensures c.requires.served in
    record { served = known.names; number = known.number; counts = c.requires.counts }

pub returns-clause-words : goal.returns-clause-words
returns-clause-words g c =
    let before : Outside = outside g.F.Folder g.O.Sink c.args.folder.now c.args.out.now in
    let after : Outside = outside g.F.Folder g.O.Sink c.answer-cause.new.folder c.answer-cause.new.out in
    let form : Form = form_of_command c.in-Some.command in (
      λ e. absurd (never_words form before after (subst (λ (cause : Cause). AnswersCall form cause before after) (sym c.status_of-2.ensures.cause ∙ e) c.answer-cause.ensures.answers)),
      λ none. let some = c.in-Some.ensures in let both = sym none ∙ some in absurd (cc both),
    )
