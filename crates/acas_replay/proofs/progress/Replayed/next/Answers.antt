use Rattle.std.proofs.Common.{◌≡◌, ◌∙◌, ◌+◌, ◌<◌, ◌≤◌, cond, ap, refl, ℕ, arith, w64, rules, Bool, true, false}
use Rattle.std.proofs.lemmas.Int.{to_z-of_z}
use mir.Val.{SFits, bool_byte}
use Rattle.acas_spec.specs.Model.{ModelData}
use Rattle.acas_base.specs.Advices.{AdvicesData}
use Rattle.acas_replay.specs.Encounter.{EncounterData, intruder_at, own_at, seconds}
use Rattle.acas_replay.specs.States.{state_after}
use Rattle.acas_replay.specs.Flown.{HasFlown, IsFound, IsReached}
use Rattle.acas_replay.specs.declared.progress.Found.{Found}
use Rattle.acas_replay.specs.declared.progress.Progress.{Progress}
use Rattle.acas_replay.specs.declared.state.EncounterState.{EncounterState}
use Rattle.acas_replay.proofs.Bounds.{intruder_at-small, own_at-small, reached_before}
use Rattle.acas_replay.proofs.Courses.{found_contacts, found_state}
use Rattle.acas_replay.proofs.progress.Replayed.next.Goals as goal

pub after-state-requires : goal.after-state-requires
after-state-requires c =
    let e = c.args.self.now.encounter.now in
    let valid = c.accelerations-own.ensures.valid in
    let v : SFits w64 c.accelerations-own.result.0 = search rules in
    let w : SFits w64 c.accelerations-own.result.1 = search rules in
    record {
      own = rw (to_z-of_z w64 c.accelerations-own.result.0 v, c.accelerations-own.ensures.own) (own_at-small e c.args.second valid c.requires.second);
      intruder = rw (to_z-of_z w64 c.accelerations-own.result.1 w, c.accelerations-own.ensures.intruder) (intruder_at-small e c.args.second valid c.requires.second);
      reached = reached_before e c.args.second c.args.at.now.state valid c.requires.second c.requires.flown.reached;
    }

byte : (b : Bool) → bool_byte b ≡ cond b 1 0
byte true = refl
byte false = refl

at_most : {n l k : ℕ} (b : Bool) → n ≡ l + cond b 1 0 → l ≤ k → n ≤ k + 1
at_most true e h = omega arith
at_most false e h = omega arith

pub overflow_add-contacts : goal.overflow_add-contacts
overflow_add-contacts c = let few = at_most c.args.found.now.contact (ap (λ (n : ℕ). c.args.at.now.contacts + n) (c.from.ensures ∙ byte _)) c.requires.flown.few in omega arith

-- one second more, whose state and count are these
one_more : (m : ModelData) (a : AdvicesData) (e : EncounterData) (k : ℕ) (p : Progress) (f : Found) (s : EncounterState) (n : ℕ) → k < seconds e → HasFlown m a e k p → IsFound m a e k p.state f →
    s ≡ state_after p.state f.advice (own_at e k) (intruder_at e k) → IsReached (k + 1) s → n ≡ p.contacts + cond f.contact 1 0 →
    HasFlown m a e (k + 1) (let q : Progress = record { state = s; contacts = n } in q)
one_more m a e k p f s n h flown found s_is reached n_is = record {
  state = λ c is. s_is ∙ found_state m a e c k p.state f is h (flown.state c is) found;
  contacts_are = λ c is. n_is ∙ found_contacts m a e c k p.state f is h (flown.state c is) found p.contacts (flown.contacts_are c is);
  present = rw s_is found.known;
  reached = reached;
  few = at_most f.contact n_is flown.few;
}

pub returns : goal.returns
returns c =
    let v : SFits w64 c.accelerations-own.result.0 = search rules in
    let w : SFits w64 c.accelerations-own.result.1 = search rules in
    let own = to_z-of_z w64 c.accelerations-own.result.0 v ∙ c.accelerations-own.ensures.own in
    let intruder = to_z-of_z w64 c.accelerations-own.result.1 w ∙ c.accelerations-own.ensures.intruder in
    one_more c.args.self.now.model.now c.args.self.now.advices.now c.args.self.now.encounter.now c.args.second c.args.at.now c.args.found.now c.after-state.result _
    c.requires.second c.requires.flown c.requires.found (rw (own, intruder) at c.after-state.ensures.value) (c.after-state.ensures.reached c.args.second c.requires.flown.reached)
    (ap (λ (n : ℕ). c.args.at.now.contacts + n) (c.from.ensures ∙ byte _))
