-- Reports that were begun, and whole ones that begin so.
use Rattle.std.proofs.Common.{ℕ, Bool, List, [], ◌∷◌, ◌++◌, Option, All, refl, subst}
use Rattle.std.proofs.lemmas.List.Elements.{All-head, All-tail}
use Rattle.acas_outside.specs.Bytes.{AppendsPart}
use Rattle.acas_report_lines.specs.Report.{Ruled, AreRuled, IsReportOn, IsBegun, counts_of}
use Rattle.acas_report_lines.specs.declared.counts.Counts.{Counts}
use Rattle.acas_report_lines.proofs.Counting.{ruled_append, ruled_none, ruled_one}

-- each has a ruling
abbrev pub HasRuling : {N R : Type 0} → (N → R → Type 0) → N → Type 0
HasRuling {N} {R} IsRulingOf name = (ruling : R) × IsRulingOf name ruling

record Rest {N R : Type 0} (IsRulingOf : N → R → Type 0) (names : List N) : Type 0 where
  pub others : List (Ruled N R)
  pub are : AreRuled IsRulingOf names others

rest_of : {N R : Type 0} (IsRulingOf : N → R → Type 0) (names : List N) → All (HasRuling IsRulingOf) names → Rest IsRulingOf names
rest_of IsRulingOf [] all = record { others = []; are = ruled_none IsRulingOf }
rest_of IsRulingOf (name ∷ names) all =
    let one = All-head (HasRuling IsRulingOf) name names all in
    let rest = rest_of IsRulingOf names (All-tail (HasRuling IsRulingOf) name names all) in
    record {
      others = record { name = name; ruling = one.0 } ∷ rest.others;
      are = ruled_append IsRulingOf (name ∷ []) names (record { name = name; ruling = one.0 } ∷ []) rest.others (ruled_one IsRulingOf name one.0 one.1) rest.are;
    }

behind : {N : Type 0} (P : N → Type 0) (first rest : List N) → All P (first ++ rest) → All P rest
behind P [] rest all = all
behind P (name ∷ names) rest all = behind P names rest (All-tail P name (names ++ rest) all)

pub goes_on : {N R : Type 0} (IsRulingOf : N → R → Type 0) (certified : R → Bool) (names : List N) (clear : ℕ) (text_of : List (Ruled N R) → List ℕ) (old new : Option (List ℕ)) → All (HasRuling IsRulingOf) names → IsBegun IsRulingOf names text_of old new → (counts : Counts) × (text : List ℕ) × IsReportOn IsRulingOf certified names clear text_of counts text × AppendsPart old new text
goes_on IsRulingOf certified names clear text_of old new all begun =
    let rest = rest_of IsRulingOf begun.rest (behind (HasRuling IsRulingOf) begun.first begun.rest (rw begun.order all)) in (
      counts_of certified (begun.ruled ++ rest.others) clear,
      text_of (begun.ruled ++ rest.others),
      record {
        ruled = begun.ruled ++ rest.others;
        rulings = subst (λ (l : List _). AreRuled IsRulingOf l (begun.ruled ++ rest.others)) begun.order
            (ruled_append IsRulingOf begun.first begun.rest begun.ruled rest.others begun.rulings rest.are);
        counted = refl;
        printed = refl;
      },
      begun.part rest.others rest.are.all,
    )
