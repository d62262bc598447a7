-- Where each ruling is one, so is a report.
use Rattle.std.proofs.Common.{◌≡◌, ℕ, Bool, List, [], ◌∷◌, ◌++◌, All, Option, refl, ap, sym, subst, ◌∙◌}
use Rattle.std.proofs.lemmas.List.Elements.{All-head, All-tail}
use Rattle.std.proofs.lemmas.List.{append-nil}
use Rattle.acas_report_lines.proofs.Begun.{HasRuling}
use Rattle.acas_report_lines.proofs.Counting.{ruled_append, ruled_none, ruled_one}
use Rattle.acas_outside.specs.Bytes.{AppendsPart}
use Rattle.acas_report_lines.specs.Report.{Ruled, AreRuled, IsReportOn, IsBegun, counts_of}
use Rattle.acas_report_lines.specs.declared.counts.Counts.{Counts}
use Rattle.acas_report_laws.specs.Told.{names_of}

-- the name has no two rulings
abbrev pub HasOneRuling : {N R : Type 0} → (N → R → Type 0) → N → Type 0
HasOneRuling {N} {R} IsRulingOf name = (r q : R) → IsRulingOf name r → IsRulingOf name q → r ≡ q

-- those whose names come first are the first of others
pub record Begins {N R : Type 0} (rest : List N) (first whole : List (Ruled N R)) : Type 0 where
  pub others : List (Ruled N R)
  pub names : names_of others ≡ rest
  pub whole_is : first ++ others ≡ whole

begins : {N R : Type 0} (IsRulingOf : N → R → Type 0) (rest : List N) (first whole : List (Ruled N R)) → names_of first ++ rest ≡ names_of whole → All (HasOneRuling IsRulingOf) (names_of whole) →
    All (λ r. IsRulingOf r.name r.ruling) first → All (λ r. IsRulingOf r.name r.ruling) whole → Begins rest first whole
begins IsRulingOf rest [] whole names one first_are whole_are = record { others = whole; names = sym names; whole_is = refl }
begins IsRulingOf rest (r ∷ rs) [] names one first_are whole_are = absurd (cc)
begins {N} {R} IsRulingOf rest (r ∷ rs) (o ∷ os) names one first_are whole_are =
    let name : r.name ≡ o.name = cc in
    let others : names_of rs ++ rest ≡ names_of os = cc in
    let mine = All-head (λ (r : Ruled N R). IsRulingOf r.name r.ruling) r rs first_are in
    let ruling : r.ruling ≡ o.ruling = All-head (HasOneRuling IsRulingOf) o.name (names_of os) one r.ruling o.ruling (subst (λ x. IsRulingOf x r.ruling) name mine) (All-head (λ (r : Ruled N R). IsRulingOf r.name r.ruling) o os whole_are) in
    let more = begins IsRulingOf rest rs os others (All-tail (HasOneRuling IsRulingOf) o.name (names_of os) one) (All-tail (λ (r : Ruled N R). IsRulingOf r.name r.ruling) r rs first_are) (All-tail (λ (r : Ruled N R). IsRulingOf r.name r.ruling) o os whole_are) in
    record { others = more.others; names = more.names; whole_is = λ i. record { name = name i; ruling = ruling i } ∷ more.whole_is i }

-- rulings of the same names are the same
one_ruled : {N R : Type 0} (IsRulingOf : N → R → Type 0) (names : List N) (ruled other : List (Ruled N R)) → All (HasOneRuling IsRulingOf) names → AreRuled IsRulingOf names ruled → AreRuled IsRulingOf names other → ruled ≡ other
one_ruled {N} {R} IsRulingOf names ruled other one are others_are =
    let more = begins IsRulingOf [] ruled other (append-nil (names_of ruled) ∙ are.all ∙ sym others_are.all) (subst (All (HasOneRuling IsRulingOf)) (sym others_are.all) one) are.each others_are.each in
    sym (append-nil ruled) ∙ ap (λ (l : List (Ruled N R)). ruled ++ l) (sym (none more.others more.names)) ∙ more.whole_is
  where
    none : (rest : List (Ruled N R)) → names_of rest ≡ [] → rest ≡ []
    none [] e = refl
    none (r ∷ rs) e = absurd (cc)

-- where each name has a ruling, there is a list of them
some_ruled : {N R : Type 0} (IsRulingOf : N → R → Type 0) (names : List N) → All (HasRuling IsRulingOf) names → (ruled : List (Ruled N R)) × AreRuled IsRulingOf names ruled
some_ruled IsRulingOf [] all = ([], ruled_none IsRulingOf)
some_ruled IsRulingOf (name ∷ names) all =
    let one = All-head (HasRuling IsRulingOf) name names all in
    let rest = some_ruled IsRulingOf names (All-tail (HasRuling IsRulingOf) name names all) in (
      record { name = name; ruling = one.0 } ∷ rest.0,
      ruled_append IsRulingOf (name ∷ []) names (record { name = name; ruling = one.0 } ∷ []) rest.0 (ruled_one IsRulingOf name one.0 one.1) rest.1,
    )

pub some_report : {N R : Type 0} (IsRulingOf : N → R → Type 0) (certified : R → Bool) (names : List N) (clear : ℕ) (text_of : List (Ruled N R) → List ℕ) → All (HasRuling IsRulingOf) names →
    (counts : Counts) × (text : List ℕ) × IsReportOn IsRulingOf certified names clear text_of counts text
some_report IsRulingOf certified names clear text_of all =
    let some = some_ruled IsRulingOf names all in
    (counts_of certified some.0 clear, text_of some.0, record { ruled = some.0; rulings = some.1; counted = refl; printed = refl })

pub one_report : {N R : Type 0} (IsRulingOf : N → R → Type 0) (certified : R → Bool) (names : List N) (clear : ℕ) (text_of : List (Ruled N R) → List ℕ) (counts c : Counts) (text t : List ℕ) → All (HasOneRuling IsRulingOf) names →
    IsReportOn IsRulingOf certified names clear text_of counts text → IsReportOn IsRulingOf certified names clear text_of c t → (counts ≡ c) × (text ≡ t)
one_report IsRulingOf certified names clear text_of counts c text t one report other =
    let same = one_ruled IsRulingOf names report.ruled other.ruled one report.rulings other.rulings in
    (report.counted ∙ ap (λ l. counts_of certified l clear) same ∙ sym other.counted, report.printed ∙ ap text_of same ∙ sym other.printed)

-- what went out of a report that was begun is a proper prefix of the report
pub begun_report : {N R : Type 0} (IsRulingOf : N → R → Type 0) (certified : R → Bool) (names : List N) (clear : ℕ) (text_of : List (Ruled N R) → List ℕ) (old new : Option (List ℕ)) (counts : Counts) (text : List ℕ) → All (HasOneRuling IsRulingOf) names →
    IsBegun IsRulingOf names text_of old new → IsReportOn IsRulingOf certified names clear text_of counts text → AppendsPart old new text
begun_report {N} IsRulingOf certified names clear text_of old new counts text one begun report =
    let all = report.rulings.all in
    let more = begins IsRulingOf begun.rest begun.ruled report.ruled (ap (λ (l : List N). l ++ begun.rest) begun.rulings.all ∙ begun.order ∙ sym all) (subst (All (HasOneRuling IsRulingOf)) (sym all) one) begun.rulings.each report.rulings.each in
    subst (AppendsPart old new) (ap text_of more.whole_is ∙ sym report.printed) (begun.part more.others more.names)
