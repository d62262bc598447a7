use Rattle.std.specs.Prelude.{⊤}
use Rattle.std.proofs.Common.{◌≡◌, ◌∙◌, ap, arith}
use Rattle.std.proofs.lemmas.Result.{on_ok_weaker}
use Rattle.acas_table_text.specs.Faults.{width_of}
use Rattle.acas_table_text.proofs.Groups.{digest-within}
use Rattle.acas_table.proofs.Looks.{digest_given, digest_width}
use Rattle.acas_table.proofs.body.check_digest.Goals as goal

pub check-requires-clause-limit : goal.check-requires-clause-limit
check-requires-clause-limit g c =
    let width : width_of c.digest_field.result ≡ 32 = ap width_of c.digest_field.ensures ∙ digest_width c.args.format c.args.group c.digest-computed.result in
    omega (arith, width, digest-within c.args.format c.args.shape.now c.args.group c.requires.group, c.requires.stands.place, c.requires.stands.limit, c.digest-computed.ensures.place, c.digest-computed.ensures.limit)

pub returns-clause-given : goal.returns-clause-given
returns-clause-given g c =
    digest_given {X = Unit {0}} (λ x bytes. ⊤) _ c.args.name.now c.args.format c.args.shape.now c.args.group c.args.source.now c.digest-computed.new.self _ c.digest-computed.result _ _ c.digest_field.ensures
    c.digest-computed.ensures.digest c.digest-computed.ensures.at c.requires.mark c.requires.stands c.digest-computed.ensures.place c.digest-computed.ensures.expected c.check.ensures.given

pub returns-clause-place : goal.returns-clause-place
returns-clause-place g c =
    let width : width_of c.digest_field.result ≡ 32 = ap width_of c.digest_field.ensures ∙ digest_width c.args.format c.args.group c.digest-computed.result in
    on_ok_weaker c.check.result (λ steps. omega (arith, width, steps.place, c.digest-computed.ensures.place)) c.check.ensures.steps
