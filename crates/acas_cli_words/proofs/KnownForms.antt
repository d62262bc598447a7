-- What is known of a form that words have: the names of its files are among the words, and its numbers are within their limits.
use Rattle.std.proofs.Common.{◌≡◌, ℕ, ◌<◌, ◌≤◌, zero, suc, get_or, refl, List, [], ◌∷◌, Bool, true, false, cond, pos, unsigned_abs, Option, Some, None, subst, arith}
use Rattle.std.specs.Prelude.{All, ◌&&◌, codes}
use Rattle.std.specs.Str.{bytes_eq}
use Rattle.std.specs.Option.{option_map}
use Rattle.std.proofs.lemmas.Int.{ints}
use Rattle.acas_units.specs.declared.limits.TheConstants.{GREATEST_DRILL_NUMBER, GREATEST_LIMIT, GREATEST_RATE, LEAST_DRILL_NUMBER}
use Rattle.acas_cli_words.specs.Forms.{HasNumber}
use Rattle.acas_drill_model.specs.Word.{drill_number}
use Rattle.acas_drill_model.proofs.Words.{named}
use Rattle.acas_rulings.specs.ManoeuvreLimits.{IsManoeuvre}
use Rattle.acas_report_lines.specs.declared.counts.Which.TheVariants.{All as Whole, Reported}
use Rattle.acas_cli_words.specs.Words.{Form, Values, Compile, Check, Risk, Audit, Regions, Manoeuvre, Safeable, Replay, Migrate, Drill, accel_of, are_apart, are_file_names, form_of, is_file_name, manoeuvre_of, names_of, rate_of}

-- of each of its names this is so, and its numbers are within their limits
pub record IsKnown (P : List ℕ → Type 0) (form : Form) : Type 0 where
  pub names : All P (names_of form)
  pub number : HasNumber form

-- ---- the names of files

all_tail : (P : List ℕ → Type 0) (x : List ℕ) (xs : List (List ℕ)) → All P (x ∷ xs) → All P xs
all_tail P x xs h = λ k d within. h (suc k) d (omega (arith, within))

all_first_two : (P : List ℕ → Type 0) (x y : List ℕ) (rest : List (List ℕ)) → All P (x ∷ y ∷ rest) → All P (x ∷ y ∷ [])
all_first_two P x y rest h = λ k d within. first_two k d within
  where
    first_two : (k : ℕ) (d : List ℕ) → k < 2 → P (get_or (x ∷ y ∷ []) k d)
    first_two zero d within = h 0 d (omega arith)
    first_two (suc zero) d within = h 1 d (omega arith)
    first_two (suc (suc k)) d within = absurd (omega (arith, within))

-- ---- numbers

within : (word : List ℕ) (number : ℕ) → drill_number word ≡ Some number → number ≤ GREATEST_DRILL_NUMBER
unfolding drill_number
within word number e = (named LEAST_DRILL_NUMBER GREATEST_DRILL_NUMBER word number e).high

may_do : (accel rate : List ℕ) (a c : ℕ) → accel_of accel ≡ Some a → rate_of rate ≡ Some c → IsManoeuvre (pos a) (pos c)
may_do accel rate a c is_a is_c =
    let first = named 1 GREATEST_LIMIT accel a is_a in
    let second = named 1 (unsigned_abs GREATEST_RATE) rate c is_c in
    record {
      least_accel = omega (arith, ints, first.low);
      greatest_accel = omega (arith, ints, first.high);
      least_rate = omega (arith, ints, second.low);
      greatest_rate = omega (arith, ints, second.high);
    }

-- ---- the forms

known_if : (P : List ℕ → Type 0) (b : Bool) (f form : Form) (o : Option Form) → cond b (Some f) o ≡ Some form → IsKnown P f → (o ≡ Some form → IsKnown P form) → IsKnown P form
known_if P true f form o e known other = subst (IsKnown P) (cc e) known
known_if P false f form o e known other = other e

known_drill : (P : List ℕ → Type 0) (b : Bool) (word : List ℕ) (o : Option ℕ) (form : Form) → drill_number word ≡ o → cond b (option_map Drill o) None ≡ Some form → IsKnown P form
known_drill P true word (Some number) form is e =
    let same : Drill number ≡ form = cc e in
    let none : All P (names_of (Drill number)) = λ k d inside. absurd (omega (arith, inside)) in
    subst (IsKnown P) same (record { names = none; number = within word number is })
known_drill P true word None form is e = absurd (cc e)
known_drill P false word o form is e = absurd (cc e)

known_manoeuvre : (P : List ℕ → Type 0) (b : Bool) (model boxes accel rate : List ℕ) (o p : Option ℕ) (form : Form) → All P (model ∷ boxes ∷ []) → accel_of accel ≡ o → rate_of rate ≡ p → cond b (manoeuvre_of model boxes o p) None ≡ Some form → IsKnown P form
known_manoeuvre P true model boxes accel rate (Some a) (Some c) form names is_a is_c e =
    let same : Manoeuvre model boxes a c ≡ form = cc e in
    subst (IsKnown P) same (record { names = names; number = may_do accel rate a c is_a is_c })
known_manoeuvre P true model boxes accel rate (Some a) None form names is_a is_c e = absurd (cc e)
known_manoeuvre P true model boxes accel rate None p form names is_a is_c e = absurd (cc e)
known_manoeuvre P false model boxes accel rate o p form names is_a is_c e = absurd (cc e)

pub known_form : (P : List ℕ → Type 0) (words : List (List ℕ)) (form : Form) → form_of words ≡ Some form → All P words → IsKnown P form
known_form P [] form e h = absurd (cc e)
known_form P (verb ∷ []) form e h = absurd (cc e)
known_form P (verb ∷ word ∷ []) form e h =
    known_if P (bytes_eq verb (codes "values") && is_file_name word) (Values word) form
    (cond (bytes_eq verb (codes "drill")) (option_map Drill (drill_number word)) None) e (record { names = all_tail P verb (word ∷ []) h; number = tt })
    (λ no_values. known_drill P (bytes_eq verb (codes "drill")) word (drill_number word) form refl no_values)
known_form P (verb ∷ model ∷ second ∷ []) form e h =
    let names : All P (model ∷ second ∷ []) = all_tail P verb (model ∷ second ∷ []) h in
    let checks : Bool = bytes_eq verb (codes "check") && are_file_names model second in
    let risks : Bool = bytes_eq verb (codes "risk") && are_file_names model second in
    let audits : Bool = bytes_eq verb (codes "audit") && are_file_names model second in
    let rules : Bool = bytes_eq verb (codes "regions") && are_file_names model second in
    let outlooks : Bool = bytes_eq verb (codes "safeable") && are_file_names model second in
    let on_clear : Option Form = cond outlooks (Some (Safeable model second)) None in
    let on_boxes : Option Form = cond rules (Some (Regions model second)) on_clear in
    let on_cells : Option Form = cond audits (Some (Audit model second Whole)) on_boxes in
    let on_risk : Option Form = cond risks (Some (Risk model second)) on_cells in
    let on_tables : Option Form = cond checks (Some (Check model second)) on_risk in
    known_if P (bytes_eq verb (codes "compile") && are_apart model second) (Compile model second) form on_tables e (record { names = names; number = tt })
    (λ no_compile. known_if P checks (Check model second) form on_risk no_compile (record { names = names; number = tt })
    (λ no_check. known_if P risks (Risk model second) form on_cells no_check (record { names = names; number = tt })
    (λ no_risk. known_if P audits (Audit model second Whole) form on_boxes no_risk (record { names = names; number = tt })
    (λ no_audit. known_if P rules (Regions model second) form on_clear no_audit (record { names = names; number = tt })
    (λ no_regions. known_if P outlooks (Safeable model second) form None no_regions (record { names = names; number = tt }) (λ none. absurd (cc none)))))))
known_form P (verb ∷ model ∷ table ∷ third ∷ []) form e h =
    let all : All P (model ∷ table ∷ third ∷ []) = all_tail P verb (model ∷ table ∷ third ∷ []) h in
    let replays : Bool = bytes_eq verb (codes "replay") && are_file_names model table && is_file_name third in
    let migrates : Bool = bytes_eq verb (codes "migrate") && are_apart model third && are_apart table third in
    let on_format : Option Form = cond migrates (Some (Migrate model table third)) None in
    known_if P (bytes_eq verb (codes "audit") && are_file_names model table && bytes_eq third (codes "--reported")) (Audit model table Reported) form
    (cond replays (Some (Replay model table third)) on_format) e (record { names = all_first_two P model table (third ∷ []) all; number = tt })
    (λ no_audit. known_if P replays (Replay model table third) form on_format no_audit (record { names = all; number = tt })
    (λ no_replay. known_if P migrates (Migrate model table third) form None no_replay (record { names = all; number = tt }) (λ none. absurd (cc none))))
known_form P (verb ∷ model ∷ boxes ∷ accel ∷ rate ∷ []) form e h =
    let all : All P (model ∷ boxes ∷ accel ∷ rate ∷ []) = all_tail P verb (model ∷ boxes ∷ accel ∷ rate ∷ []) h in
    known_manoeuvre P (bytes_eq verb (codes "manoeuvre") && are_file_names model boxes) model boxes accel rate (accel_of accel) (rate_of rate) form
    (all_first_two P model boxes (accel ∷ rate ∷ []) all) refl refl e
known_form P (verb ∷ model ∷ table ∷ third ∷ fourth ∷ more ∷ rest) form e h = absurd (cc e)
