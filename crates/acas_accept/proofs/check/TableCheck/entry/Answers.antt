use Rattle.std.proofs.Common.{List, None, Some, Ok, Err, subst, arith}
use Rattle.acas_units.specs.declared.pair.Pair.{Pair}
use Rattle.acas_table.specs.Reader.{reader_state, GivesEntry, HasRead}
use Rattle.std.proofs.lemmas.Grind.{common_steps}
use Rattle.acas_accept.proofs.Planes.{allowed_at, says_at}
use Rattle.acas_accept.proofs.Steps.{IsOn, Keeps, Says, check_next, fault_answered, unsound_answered, in_layer_next, more_entries}
use Rattle.acas_table.proofs.Told.{told_both, told_map}
use Rattle.acas_accept.proofs.check.TableCheck.entry.Goals as goal

pub entry-requires-clause-more : goal.entry-requires-clause-more
entry-requires-clause-more g c = more_entries c.args.model.now c.args.self.now c.args.n c.args.state c.requires.check c.requires.at.seconds c.requires.at.inside

pub returns-in-Err-clause-given : goal.returns-in-Err-clause-given
returns-in-Err-clause-given g c = λ digest.
    let t = c.args.self.now in
    told_map _ c.args.name.now (λ bytes. HasRead digest c.args.self.now.reader bytes → GivesEntry digest (reader_state c.args.self.now.reader) bytes (Err c.in-Err.fault)) _
    (λ bytes gives within. fault_answered c.args.model.now digest t c.args.n c.args.state bytes c.in-Err.fault c.refused.result c.refused.ensures.answered c.requires.check c.requires.at.seconds c.requires.at.inside within (gives within.accepted.stands))
    (c.in-Err.ensures.given digest)

pub returns-in-Ok-check_at-clause-check : goal.returns-in-Ok-check_at-clause-check
returns-in-Ok-check_at-clause-check g c =
    let on : IsOn c.args.self.now.reader c.entry.new.self = record { shape = c.in-Ok.ensures.leaves.shape; given = c.in-Ok.ensures.count; no_fault = c.in-Ok.ensures.leaves.fault; not_done = c.in-Ok.ensures.done } in
    let keeps : Keeps c.args.self.now c.entry.new.self c.keep.new.self c.args.state c.in-Ok.entry =
    record { reader = c.keep.ensures.reader; means = c.keep.ensures.means; leasts = c.keep.ensures.leasts; pairs = c.keep.ensures.pairs; advice = c.keep.ensures.advice } in
    check_next c.args.model.now c.args.self.now c.entry.new.self c.keep.new.self c.args.n c.args.state c.in-Ok.entry c.requires.check c.requires.at.seconds c.requires.at.inside on keeps
    (λ some. allowed_at c.args.model.now c.args.present c.args.vertex c.args.state c.in-Ok.entry.advice c.requires.at.place c.requires.at.is (c.in-Ok-check_at.ensures.allowed (omega arith)))

pub returns-in-Ok-check_at-clause-given : goal.returns-in-Ok-check_at-clause-given
returns-in-Ok-check_at-clause-given g c = λ digest.
    let old = c.args.self.now in
    let says : Says c.args.model.now c.args.self.now.means.items c.in-Ok.entry c.args.n c.args.state None =
    subst (λ (means : List Pair). Says c.args.model.now means c.in-Ok.entry c.args.n c.args.state None) c.deref.ensures.value
    (says_at c.args.model.now c.deref.result.now c.in-Ok.entry c.args.n c.args.present c.args.vertex c.args.state None c.requires.at.place c.requires.at.is c.in-Ok-check_at.ensures.value) in
    let keeps : Keeps c.args.self.now c.entry.new.self c.keep.new.self c.args.state c.in-Ok.entry =
    record { reader = c.keep.ensures.reader; means = c.keep.ensures.means; leasts = c.keep.ensures.leasts; pairs = c.keep.ensures.pairs; advice = c.keep.ensures.advice } in
    told_map _ c.args.name.now
    (λ bytes. (HasRead digest c.args.self.now.reader bytes → GivesEntry digest (reader_state c.args.self.now.reader) bytes (Ok c.in-Ok.entry)) × (HasRead digest c.args.self.now.reader bytes → HasRead digest c.entry.new.self bytes)) _
    (λ bytes both within.
    in_layer_next c.args.model.now digest old c.entry.new.self c.keep.new.self c.args.n c.args.state bytes c.in-Ok.entry c.requires.check c.requires.at.seconds c.requires.at.inside within (both.0 within.accepted.stands) (both.1 within.accepted.stands) says keeps)
    (told_both _ c.args.name.now (λ bytes. HasRead digest c.args.self.now.reader bytes → GivesEntry digest (reader_state c.args.self.now.reader) bytes (Ok c.in-Ok.entry))
    (λ bytes. HasRead digest c.args.self.now.reader bytes → HasRead digest c.entry.new.self bytes) (c.in-Ok.ensures.given digest) (c.in-Ok.ensures.stands digest))

pub returns-in-Err-check_at-clause-given : goal.returns-in-Err-check_at-clause-given
returns-in-Err-check_at-clause-given g c = λ digest.
    let says : Says c.args.model.now c.args.self.now.means.items c.in-Ok.entry c.args.n c.args.state (Some c.in-Err-check_at.fault) =
    subst (λ (means : List Pair). Says c.args.model.now means c.in-Ok.entry c.args.n c.args.state (Some c.in-Err-check_at.fault)) c.deref.ensures.value
    (says_at c.args.model.now c.deref.result.now c.in-Ok.entry c.args.n c.args.present c.args.vertex c.args.state (Some c.in-Err-check_at.fault) c.requires.at.place c.requires.at.is c.in-Err-check_at.ensures.value) in
    told_map _ c.args.name.now (λ bytes. HasRead digest c.args.self.now.reader bytes → GivesEntry digest (reader_state c.args.self.now.reader) bytes (Ok c.in-Ok.entry)) _
    (λ bytes gives within.
    unsound_answered c.args.model.now digest c.args.self.now c.args.n c.args.state bytes c.in-Ok.entry c.in-Err-check_at.fault c.requires.check c.requires.at.seconds c.requires.at.inside within (gives within.accepted.stands) says)
    (c.in-Ok.ensures.given digest)

pub returns-in-Err-clause-reads : goal.returns-in-Err-clause-reads
returns-in-Err-clause-reads g c = grind (arith, common_steps)

pub returns-in-Ok-check_at-clause-reads : goal.returns-in-Ok-check_at-clause-reads
returns-in-Ok-check_at-clause-reads g c = grind (arith, common_steps)

pub returns-in-Err-check_at-clause-reads : goal.returns-in-Err-check_at-clause-reads
returns-in-Err-check_at-clause-reads g c = grind (arith, common_steps)
