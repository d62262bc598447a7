-- Each encounter has a course under the advices of a table, and one alone.
use Rattle.std.proofs.Common.{◌≡◌, ℕ, zero, suc, ◌+◌, ◌<◌, ◌≤◌, ⊎_elim, Bool, true, false, cond, refl, sym, ap, ap₂, add-one, arith, pos, ◌<ℤ◌}
use Rattle.std.specs.Prelude.{IsTrue, ◌↔◌}
use Rattle.std.proofs.lemmas.Int.{ints}
use Rattle.acas_spec.specs.Limits.{IsModel}
use Rattle.acas_spec.specs.Model.{ModelData}
use Rattle.acas_base.specs.Advices.{AdvicesData}
use Rattle.acas_replay.specs.Encounter.{EncounterData, IsEncounter, intruder_at, own_at, seconds}
use Rattle.acas_replay.specs.Contact.{HasContact}
use Rattle.acas_replay.specs.declared.second.Second.{Second}
use Rattle.acas_replay.proofs.SecondContacts.{contact_or_none}
use Rattle.acas_replay.specs.States.{second_from, start_of, state_after}
use Rattle.acas_replay.specs.Flown.{IsFound}
use Rattle.acas_replay.specs.Issue.{IsIssued}
use Rattle.acas_replay.specs.Replay.{Course, IsCourse, contacts, second_at, state_at}
use Rattle.acas_replay.specs.declared.progress.Found.{Found}
use Rattle.acas_replay.specs.declared.state.EncounterState.{EncounterState}
use Rattle.acas_replay.proofs.Issued.{issued_same, some_issued}

-- ---- one

never : {A : Type 0} → false ≡ true → A
never e = let bad : ⊥ = cc in absurd bad

-- whether a second is in contact
contact_test : (radius half : ℕ) (s : Second) → pos 0 <ℤ s.closing → 0 < half → (b : Bool) × (IsTrue b ↔ HasContact radius half s)
contact_test radius half s some some_half =
    ⊎_elim
    (λ (h : HasContact radius half s). (true, (λ x. h, λ x. refl)))
    (λ (h : HasContact radius half s → ⊥). (false, (λ x. never x, λ x. absurd (h x))))
    (contact_or_none radius half s some some_half)

module _ (m : ModelData) (a : AdvicesData) (e : EncounterData) (is : IsModel m) (some : pos 0 <ℤ e.start.closing) where
  -- the state as a second begins; its range closes
  state_of : (k : ℕ) → (s : EncounterState) × (pos 0 <ℤ s.closing)
  state_of zero = (start_of e, some)
  state_of (suc k) =
      let before = state_of k in
      (state_after before.0 (some_issued m a before.0 is before.1).0 (own_at e k) (intruder_at e k), before.1)

  some_half : 0 < m.half
  some_half = omega (arith, is.some_half)

  test_of : (k : ℕ) → (b : Bool) × (IsTrue b ↔ HasContact m.radius m.half (second_from (state_of k).0 (own_at e k) (intruder_at e k)))
  test_of k = contact_test m.radius m.half (second_from (state_of k).0 (own_at e k) (intruder_at e k)) (state_of k).1 some_half

  course_of : Course
  course_of = record { advice = λ k. (some_issued m a (state_of k).0 is (state_of k).1).0; contact = λ k. (test_of k).0 }

  state_at-course : (k : ℕ) → state_at e course_of k ≡ (state_of k).0
  unfolding course_of state_of
  state_at-course zero = refl
  state_at-course (suc k) = ap (λ (s : EncounterState). state_after s (some_issued m a (state_of k).0 is (state_of k).1).0 (own_at e k) (intruder_at e k)) (state_at-course k)

  course_from : (c : Course) × IsCourse m a e c
  unfolding course_of test_of
  course_from = (
    course_of,
    record {
      issued = λ k inside. rw (state_at-course k) (some_issued m a (state_of k).0 is (state_of k).1).1;
      in_contact = λ k inside. rw (state_at-course k) (test_of k).1;
    },
  )

pub some_course : (m : ModelData) (a : AdvicesData) (e : EncounterData) → IsModel m → IsEncounter e → (c : Course) × IsCourse m a e c
some_course m a e is valid = let h = valid.start.closing.low in course_from m a e is (omega (arith, ints))

-- ---- and one alone

-- two tests of the same
pub tests_same : (b d : Bool) (P : Type 0) → IsTrue b ↔ P → IsTrue d ↔ P → b ≡ d
tests_same true true P h k = refl
tests_same false false P h k = refl
tests_same true false P h k = sym (k.1 (h.0 refl))
tests_same false true P h k = h.1 (k.0 refl)

module _ (m : ModelData) (a : AdvicesData) (e : EncounterData) (c d : Course) (is : IsCourse m a e c) (other : IsCourse m a e d) where
  advices_from : (k : ℕ) → k < seconds e → state_at e c k ≡ state_at e d k → c.advice k ≡ d.advice k
  advices_from k h same = issued_same m a (state_at e c k) (c.advice k) (d.advice k) (is.issued k h) (rw same (other.issued k h))

  pub states_same : (k : ℕ) → k ≤ seconds e → state_at e c k ≡ state_at e d k
  states_same zero h = refl
  states_same (suc k) h =
      let before = states_same k (omega arith) in
      ap₂ (λ (s : EncounterState) (advice : ℕ). state_after s advice (own_at e k) (intruder_at e k)) before (advices_from k (omega arith) before)

  pub advices_same : (k : ℕ) → k < seconds e → c.advice k ≡ d.advice k
  advices_same k h = advices_from k h (states_same k (omega arith))

  pub contacts_same : (k : ℕ) → k < seconds e → c.contact k ≡ d.contact k
  contacts_same k h =
      tests_same (c.contact k) (d.contact k) (HasContact m.radius m.half (second_at e c k)) (is.in_contact k h)
      (let same = states_same k (omega arith) in rw same (other.in_contact k h))

  pub counts_same : (k : ℕ) → k ≤ seconds e → contacts c k ≡ contacts d k
  counts_same zero h = refl
  counts_same (suc k) h = ap₂ (λ (n : ℕ) (b : Bool). n + cond b 1 0) (counts_same k (omega arith)) (contacts_same k (omega arith))

-- ---- what is found in a second is that of each course

found_advice_from : (m : ModelData) (a : AdvicesData) (e : EncounterData) (k : ℕ) (s t : EncounterState) (f : Found) (advice : ℕ) → s ≡ t → IsFound m a e k s f → IsIssued m a t advice → f.advice ≡ advice
found_advice_from m a e k s t f advice same found issued = issued_same m a s f.advice advice found.issued (rw same issued)

module _ (m : ModelData) (a : AdvicesData) (e : EncounterData) (c : Course) (k : ℕ) (s : EncounterState) (f : Found) (is : IsCourse m a e c) (inside : k < seconds e) (same : s ≡ state_at e c k) (found : IsFound m a e k s f) where
  pub found_advice : f.advice ≡ c.advice k
  found_advice = found_advice_from m a e k s (state_at e c k) f (c.advice k) same found (is.issued k inside)

  pub found_contact : f.contact ≡ c.contact k
  found_contact = tests_same f.contact (c.contact k) (HasContact m.radius m.half (second_from s (own_at e k) (intruder_at e k))) found.in_contact (rw same (is.in_contact k inside))

  pub found_state : state_after s f.advice (own_at e k) (intruder_at e k) ≡ state_at e c (k + 1)
  found_state = rw (add-one k) (ap₂ (λ (t : EncounterState) (advice : ℕ). state_after t advice (own_at e k) (intruder_at e k)) same found_advice)

  pub found_contacts : (n : ℕ) → n ≡ contacts c k → n + cond f.contact 1 0 ≡ contacts c (k + 1)
  found_contacts n e = rw (add-one k) (ap₂ (λ (n : ℕ) (b : Bool). n + cond b 1 0) e found_contact)
