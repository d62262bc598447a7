-- A whole report: its lines, and then its last line.
use Rattle.std.proofs.Common.{◌≡◌, ℕ, List, [], ◌++◌, Option, refl, sym, ◌∙◌, ap, subst}
use Rattle.std.proofs.lemmas.List.{append-nil}
use Rattle.acas_outside.specs.Bytes.{Appends, AppendsPart}
use Rattle.acas_report_lines.specs.Report.{Ruled, AreRuled, IsReportOn, IsBegun, counts_of}
use Rattle.acas_report_lines.specs.Plan.{Plan, Progress, Wrote, Broke, names_in, lines_in, clear_in}
use Rattle.acas_report_lines.specs.declared.counts.Counts.{Counts}
use Rattle.acas_report_lines.proofs.Ends.{counted, appended, part_of_last, part_before, no_others}

-- nothing is counted yet, and nothing waits
pub record IsFresh (at : Progress) : Type 0 where
  pub waits : at.waits ≡ []
  pub certified : at.counts.certified ≡ 0
  pub reported : at.counts.reported ≡ 0
  pub clear : at.counts.clear ≡ 0

-- what a report on a plan's items is on, and its text
pub record IsOf {N X R : Type 0} (plan : Plan N X R) (items : List X) (names : List N) (clear : ℕ) (text_of : List (Ruled N R) → List ℕ) (last_of : Counts → List ℕ) : Type 0 where
  pub names_are : names_in plan items ≡ names
  pub clear_are : clear_in plan items ≡ clear
  pub text_is : (ruled : List (Ruled N R)) → lines_in plan ruled ++ last_of (counts_of plan.certified ruled clear) ≡ text_of ruled

counts_are : {N X R : Type 0} (plan : Plan N X R) (items : List X) (names : List N) (clear : ℕ) (text_of : List (Ruled N R) → List ℕ) (last_of : Counts → List ℕ) → IsOf plan items names clear text_of last_of → (p q : Progress) (wrote : Wrote plan p q items) → IsFresh p → q.counts ≡ counts_of plan.certified wrote.ruled clear
counts_are plan items names clear text_of last_of is p q wrote fresh =
    counted plan p q items wrote fresh.certified fresh.reported fresh.clear ∙ ap (λ n. counts_of plan.certified wrote.ruled n) is.clear_are

last_is : {N X R : Type 0} (plan : Plan N X R) (items : List X) (names : List N) (clear : ℕ) (text_of : List (Ruled N R) → List ℕ) (last_of : Counts → List ℕ) → IsOf plan items names clear text_of last_of → (p q : Progress) (wrote : Wrote plan p q items) → IsFresh p → (last : List ℕ) → last ≡ last_of q.counts → lines_in plan wrote.ruled ++ last ≡ text_of wrote.ruled
last_is plan items names clear text_of last_of is p q wrote fresh last same =
    ap (λ (l : List ℕ). lines_in plan wrote.ruled ++ l) (same ∙ ap last_of (counts_are plan items names clear text_of last_of is p q wrote fresh))
    ∙ is.text_is wrote.ruled

rulings_are : {N X R : Type 0} (plan : Plan N X R) (items : List X) (names : List N) (p q : Progress) (wrote : Wrote plan p q items) → names_in plan items ≡ names → AreRuled plan.IsRulingOf names wrote.ruled
rulings_are plan items names p q wrote same = subst (λ (l : List _). AreRuled plan.IsRulingOf l wrote.ruled) same wrote.rulings

-- all items, and then the last line
pub whole : {N X R : Type 0} (plan : Plan N X R) (items : List X) (names : List N) (clear : ℕ) (text_of : List (Ruled N R) → List ℕ) (last_of : Counts → List ℕ) → IsOf plan items names clear text_of last_of → (p q : Progress) (counts : Counts) (new : Option (List ℕ)) (last : List ℕ) → Wrote plan p q items → IsFresh p → counts ≡ q.counts → last ≡ last_of q.counts → Appends q.written new (q.waits ++ last) → (text : List ℕ) × IsReportOn plan.IsRulingOf plan.certified names clear text_of counts text × Appends p.written new text
whole plan items names clear text_of last_of is p q counts new last wrote fresh kept same all = (
  text_of wrote.ruled,
  record {
    ruled = wrote.ruled;
    rulings = rulings_are plan items names p q wrote is.names_are;
    counted = kept ∙ counts_are plan items names clear text_of last_of is p q wrote fresh;
    printed = refl;
  },
  subst (Appends p.written new) (last_is plan items names clear text_of last_of is p q wrote fresh last same)
      (appended plan p q items new last wrote fresh.waits all),
)

-- the output failed among the items
pub begun_before : {N X R : Type 0} (plan : Plan N X R) (items : List X) (names : List N) (clear : ℕ) (text_of : List (Ruled N R) → List ℕ) (last_of : Counts → List ℕ) → IsOf plan items names clear text_of last_of → (old new : Option (List ℕ)) (waited : List ℕ) → Broke plan old waited new items → waited ≡ [] → IsBegun plan.IsRulingOf names text_of old new
begun_before plan items names clear text_of last_of is old new waited broke empty = record {
  first = broke.first;
  rest = broke.rest;
  order = broke.order ∙ is.names_are;
  ruled = broke.ruled;
  rulings = broke.rulings;
  part = λ others others_are. subst (AppendsPart old new) (is.text_is (broke.ruled ++ others))
      (part_before plan old new waited items others (last_of (counts_of plan.certified (broke.ruled ++ others) clear)) broke empty);
}

-- the output failed at the last line
pub begun_last : {N X R : Type 0} (plan : Plan N X R) (items : List X) (names : List N) (clear : ℕ) (text_of : List (Ruled N R) → List ℕ) (last_of : Counts → List ℕ) → IsOf plan items names clear text_of last_of → (p q : Progress) (new : Option (List ℕ)) (last : List ℕ) → Wrote plan p q items → IsFresh p → last ≡ last_of q.counts → AppendsPart q.written new (q.waits ++ last) → IsBegun plan.IsRulingOf names text_of p.written new
begun_last plan items names clear text_of last_of is p q new last wrote fresh same part =
    let all : AppendsPart p.written new (text_of wrote.ruled) =
    subst (AppendsPart p.written new) (last_is plan items names clear text_of last_of is p q wrote fresh last same)
    (part_of_last plan p q items new last wrote fresh.waits part) in
    record {
      first = names;
      rest = [];
      order = append-nil names;
      ruled = wrote.ruled;
      rulings = rulings_are plan items names p q wrote is.names_are;
      part = λ others none. subst (λ (rs : List (Ruled _ _)). AppendsPart p.written new (text_of rs))
          (sym (append-nil wrote.ruled) ∙ ap (λ (os : List (Ruled _ _)). wrote.ruled ++ os) (sym (no_others others none))) all;
    }
