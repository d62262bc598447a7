-- The text of a replay.
use Rattle.std.proofs.Common.{◌≡◌, ℕ, zero, suc, ◌<◌, List, [], ◌++◌, Option, append_assoc, refl, sym, ap, ap₂, subst, ◌∙◌, arith}
use Rattle.std.proofs.lemmas.List.{append-nil}
use Rattle.acas_spec.specs.Model.{ModelData}
use Rattle.acas_outside.specs.Bytes.{Appends, AppendsPart}
use Rattle.acas_outside.proofs.Appended.{appends_none}
use Rattle.acas_outside.specs.Printing.{Prints, below}
use Rattle.acas_outside.proofs.PrintedPieces.{part_of_longer, part_of_next, prints_all, prints_both}
use Rattle.acas_base.specs.Advices.{AdvicesData}
use Rattle.acas_replay.specs.Encounter.{EncounterData, seconds}
use Rattle.acas_replay.specs.Replay.{Course, IsCourse, contacts, counts_line, line_of, replay_text, second_line, state_at}
use Rattle.acas_replay.specs.declared.state.EncounterState.{EncounterState}
use Rattle.acas_replay.specs.Flown.{IsFound}
use Rattle.acas_replay.specs.declared.progress.Found.{Found}
use Rattle.acas_replay.proofs.Courses.{advices_same, contacts_same, counts_same, found_advice, found_contact, states_same}

-- the same pieces make the same text
below_same : (n : ℕ) (f g : ℕ → List ℕ) → ((k : ℕ) → k < n → f k ≡ g k) → below n f ≡ below n g
below_same zero f g same = refl
below_same (suc n) f g same = ap₂ ◌++◌ (below_same n f g (λ k h. same k (omega arith))) (same n (omega arith))

three_same : {A B C D : Type 0} (f : A → B → C → D) {a a' : A} {b b' : B} {c c' : C} → a ≡ a' → b ≡ b' → c ≡ c' → f a b c ≡ f a' b' c'
three_same f {a} {a'} {b} {b'} {c} {c'} p q r = ap (λ x. f x b c) p ∙ ap (λ x. f a' x c) q ∙ ap (λ x. f a' b' x) r

-- what is found in a second makes its line, whatever the course is
pub found_line : (m : ModelData) (a : AdvicesData) (e : EncounterData) (c : Course) (k : ℕ) (s : EncounterState) (f : Found) → IsCourse m a e c → k < seconds e → s ≡ state_at e c k → IsFound m a e k s f →
    line_of m k s f.advice f.contact ≡ second_line m e c k
found_line m a e c k s f is h same found = three_same (line_of m k) same (found_advice m a e c k s f is h same found) (found_contact m a e c k s f is h same found)

-- an encounter has one text
pub texts_same : (m : ModelData) (a : AdvicesData) (e : EncounterData) (c d : Course) → IsCourse m a e c → IsCourse m a e d → replay_text m e c ≡ replay_text m e d
unfolding replay_text
texts_same m a e c d is other =
    ap₂ (λ (lines : List ℕ) (count : ℕ). lines ++ counts_line (seconds e) count)
    (below_same (seconds e) (second_line m e c) (second_line m e d)
    (λ k h. three_same (line_of m k) (states_same m a e c d is other k (omega arith)) (advices_same m a e c d is other k h) (contacts_same m a e c d is other k h)))
    (counts_same m a e c d is other (seconds e) (omega arith))

-- ---- what is written of it

-- the lines and the last line, behind nothing that waits
behind_nothing : (m : ModelData) (e : EncounterData) (c : Course) (waits last : List ℕ) → waits ≡ [] → last ≡ counts_line (seconds e) (contacts c (seconds e)) →
    waits ++ (below (seconds e) (second_line m e c) ++ last) ≡ replay_text m e c
unfolding replay_text
behind_nothing m e c waits last empty same = ap₂ (λ (l : List ℕ) (n : List ℕ). l ++ (below (seconds e) (second_line m e c) ++ n)) empty same

-- all of it
pub whole_text : (m : ModelData) (e : EncounterData) (c : Course) (old mid new : Option (List ℕ)) (waits left last : List ℕ) → waits ≡ [] → last ≡ counts_line (seconds e) (contacts c (seconds e)) →
    Prints old mid waits left (below (seconds e) (second_line m e c)) → Appends mid new (left ++ last) → Appends old new (replay_text m e c)
whole_text m e c old mid new waits left last empty same lines end =
    let ended : Prints mid new left [] last = record { sent = left ++ last; written = end; all = sym (append-nil (left ++ last)) } in
    let both = prints_both old mid new waits left [] (below (seconds e) (second_line m e c)) last lines ended in
    subst (λ (l : List ℕ). Appends old new l) (behind_nothing m e c waits last empty same)
    (prints_all old new new waits [] (below (seconds e) (second_line m e c) ++ last) both (appends_none new))

-- a failure at the last line
pub part_at_last : (m : ModelData) (e : EncounterData) (c : Course) (old mid new : Option (List ℕ)) (waits left last : List ℕ) → waits ≡ [] → last ≡ counts_line (seconds e) (contacts c (seconds e)) →
    Prints old mid waits left (below (seconds e) (second_line m e c)) → AppendsPart mid new (left ++ last) → AppendsPart old new (replay_text m e c)
part_at_last m e c old mid new waits left last empty same lines part =
    subst (AppendsPart old new) (behind_nothing m e c waits last empty same)
    (part_of_next old mid new waits left (below (seconds e) (second_line m e c)) last lines part)

-- a failure before it
pub part_before_last : (m : ModelData) (e : EncounterData) (c : Course) (old new : Option (List ℕ)) (waits : List ℕ) → waits ≡ [] → AppendsPart old new (waits ++ below (seconds e) (second_line m e c)) → AppendsPart old new (replay_text m e c)
part_before_last m e c old new waits empty part =
    let last : List ℕ = counts_line (seconds e) (contacts c (seconds e)) in
    subst (AppendsPart old new) (append_assoc waits (below (seconds e) (second_line m e c)) last ∙ behind_nothing m e c waits last empty refl)
    (part_of_longer old new (waits ++ below (seconds e) (second_line m e c)) last part)
