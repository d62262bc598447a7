use Rattle.std.proofs.Common.{◌∙◌, w64, rules}
use Rattle.std.proofs.lemmas.Int.{to_z-of_z}
use mir.Val.{SFits}
use Rattle.acas_replay.proofs.Bounds.{intruder_at-small, own_at-small, reached_before}
use Rattle.acas_replay.proofs.progress.Replayed.found_in.Goals as goal

pub issued_advice-advice-requires-clause-reached : goal.issued_advice-advice-requires-clause-reached
issued_advice-advice-requires-clause-reached c = reached_before c.args.self.now.encounter.now c.args.second c.args.state.now c.accelerations-own.ensures.valid c.requires.second c.requires.reached

pub second-requires : goal.second-requires
second-requires c =
    let e = c.args.self.now.encounter.now in
    let valid = c.accelerations-own.ensures.valid in
    let v : SFits w64 c.accelerations-own.result.0 = search rules in
    let w : SFits w64 c.accelerations-own.result.1 = search rules in
    record {
      own = rw (to_z-of_z w64 c.accelerations-own.result.0 v, c.accelerations-own.ensures.own) (own_at-small e c.args.second valid c.requires.second);
      intruder = rw (to_z-of_z w64 c.accelerations-own.result.1 w, c.accelerations-own.ensures.intruder) (intruder_at-small e c.args.second valid c.requires.second);
      reached = reached_before e c.args.second c.args.state.now valid c.requires.second c.requires.reached;
    }

pub returns : goal.returns
returns c =
    let v : SFits w64 c.accelerations-own.result.0 = search rules in
    let w : SFits w64 c.accelerations-own.result.1 = search rules in
    let own = to_z-of_z w64 c.accelerations-own.result.0 v ∙ c.accelerations-own.ensures.own in
    let intruder = to_z-of_z w64 c.accelerations-own.result.1 w ∙ c.accelerations-own.ensures.intruder in
    record {
      issued = c.issued_advice-advice.ensures.issued;
      in_contact = rw (c.second.ensures.value, own, intruder) at c.is_in_contact-contact.ensures;
      known = c.issued_advice-advice.ensures.known;
    }
