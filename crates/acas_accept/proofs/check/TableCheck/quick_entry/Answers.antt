use Rattle.std.proofs.Common.{◌∙◌, List, None, refl, ap, subst, arith}
use Rattle.acas_units.specs.declared.pair.Pair.{Pair}
use Rattle.acas_table.specs.Reader.{ReaderState}
use Rattle.std.proofs.lemmas.Grind.{common_steps}
use Rattle.acas_accept.proofs.Planes.{allowed_at, says_at}
use Rattle.acas_accept.proofs.Steps.{IsOn, Keeps, Says, check_next, in_layer_next, more_entries}
use Rattle.acas_accept.proofs.check.TableCheck.quick_entry.Goals as goal

pub pass-requires-clause-more : goal.pass-requires-clause-more
pass-requires-clause-more c = more_entries c.args.model.now c.args.self.now c.args.n c.args.state c.requires.check c.requires.n c.requires.state

pub returns-clause-check : goal.returns-clause-check
returns-clause-check c = λ yes.
    let state = c.pass.ensures.state in
    let on : IsOn c.args.self.now.reader c.pass.new.self =
    record {
      shape = ap (λ (s : ReaderState). s.shape) state;
      given = ap (λ (s : ReaderState). s.given) state;
      no_fault = ap (λ (s : ReaderState). s.fault) state ∙ c.requires.check.no_fault;
      not_done = ap (λ (s : ReaderState). s.done) state ∙ c.requires.check.not_done;
    } in
    let keeps : Keeps c.args.self.now c.pass.new.self c.keep.new.self c.args.state c.in-Some.entry =
    record { reader = c.keep.ensures.reader; means = c.keep.ensures.means; leasts = c.keep.ensures.leasts; pairs = c.keep.ensures.pairs; advice = c.keep.ensures.advice } in
    check_next c.args.model.now c.args.self.now c.pass.new.self c.keep.new.self c.args.n c.args.state c.in-Some.entry c.requires.check c.requires.n c.requires.state on keeps
    (λ some. allowed_at c.args.model.now c.args.plane.now.present c.args.vertex c.args.state c.in-Some.entry.advice c.requires.vertex c.requires.place (c.if-not-is_sound_at.ensures.allowed refl))

pub returns-clause-given : goal.returns-clause-given
returns-clause-given c = λ yes digest bytes within.
    let old = c.args.self.now in
    let says : Says c.args.model.now c.args.self.now.means.items c.in-Some.entry c.args.n c.args.state None =
    subst (λ (means : List Pair). Says c.args.model.now means c.in-Some.entry c.args.n c.args.state None) c.deref.ensures.value
    (says_at c.args.model.now c.deref.result.now c.in-Some.entry c.args.n c.args.plane.now.present c.args.vertex c.args.state None c.requires.vertex c.requires.place (λ t entry layer. (c.if-not-is_sound_at.ensures.value t c.args.n (c.requires.found c.if-not-found.false).some entry layer).0 refl)) in
    let keeps : Keeps c.args.self.now c.pass.new.self c.keep.new.self c.args.state c.in-Some.entry =
    record { reader = c.keep.ensures.reader; means = c.keep.ensures.means; leasts = c.keep.ensures.leasts; pairs = c.keep.ensures.pairs; advice = c.keep.ensures.advice } in
    in_layer_next c.args.model.now digest old c.pass.new.self c.keep.new.self c.args.n c.args.state bytes c.in-Some.entry c.requires.check c.requires.n c.requires.state within
    (c.pass.ensures.given c.in-Some.entry c.in-Some.ensures.at_hand digest bytes within.accepted.stands) (c.pass.ensures.stands digest bytes within.accepted.stands) says keeps

pub returns-then-not-is_sound_at : goal.returns-then-not-is_sound_at
returns-then-not-is_sound_at c = grind (arith, common_steps)

pub is_sound_at-requires-clause-narrow : goal.is_sound_at-requires-clause-narrow
is_sound_at-requires-clause-narrow c = grind (arith, common_steps)

pub returns-clause-taken : goal.returns-clause-taken
returns-clause-taken c = grind (arith, common_steps)
