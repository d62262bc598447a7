-- What is read of a report is so.
use Rattle.std.proofs.Common.{◌≡◌, ℕ, ◌<◌, ◌^◌, Bool, List, [], ◌∷◌, ◌++◌, codes, All, refl, ap, sym, subst, ◌∙◌, append_assoc}
use Rattle.std.proofs.lemmas.List.{append_cancel_left}
use Rattle.std.proofs.lemmas.List.Elements.{All-head, All-tail, All-cons, All-nil}
use Rattle.std.specs.Fmt.{decimal}
use Rattle.std.specs.List.{AllByRecursion, AllZip}
use Rattle.std.specs.List.Sorted.{IsStrictlySortedBy}
use Rattle.std.specs.declared.cmp.Ordering.TheVariants.{Greater, Less}
use Rattle.std.specs.Ordering.{ordering_reverse}
use Rattle.std.proofs.lemmas.Cmp.{nat_list_cmp_total}
use Rattle.acas_spec.specs.Limits.{IsModel}
use Rattle.acas_spec.specs.Model.{ModelData}
use Rattle.acas_base.specs.Advices.{AdvicesData}
use Rattle.acas_flight.specs.State.{State, IsInBox, IsInCell}
use Rattle.acas_rulings.specs.declared.flight.Witness.{Witness}
use Rattle.acas_rulings.specs.Boxes.{AuditedBox, box_at}
use Rattle.acas_cells.specs.Cells.{IsCellOf, cells_of}
use Rattle.acas_cells.specs.Corners.{advisory_cells, names_at}
use Rattle.acas_cells.specs.Order.{by_numbers, numbers}
use Rattle.acas_rulings.specs.Rulings.{IsRuling, IsRulingOfCell, IsWitnessOfBox, IsWitnessOfCell}
use Rattle.acas_cells.specs.declared.name.CellName.{CellName}
use Rattle.acas_rulings.specs.declared.ruling.Ruling.{Ruling}
use Rattle.acas_rulings.specs.declared.ruling.Ruling.TheVariants.{Certified, Reported}
use Rattle.acas_cells.proofs.Lists.{all_members, of_flat_map}
use Rattle.acas_cells.proofs.Order.{of_cells, of_names, sorted_advisory_cells}
use Rattle.acas_report_lines.specs.Text.{field, cell_line, counts_text, box_text, box_counts_text, is_certified, line_of_box, ruling_text}
use Rattle.acas_report_lines.specs.Report.{Ruled, lines_of, counts_of}
use Rattle.acas_report_lines.specs.CellReport.{IsReport, report_text, clear_cells}
use Rattle.acas_rulings.specs.Intruder.{Manoeuvre}
use Rattle.acas_rulings.specs.Verdicts.{IsMeetVerdict}
use Rattle.acas_rulings.specs.declared.verdict.MeetVerdict.{MeetVerdict}
use Rattle.acas_rulings.specs.declared.verdict.MeetVerdict.TheVariants as met
use Rattle.acas_report_lines.specs.Meetings.{IsMeetVerdictAt, IsMeetingsReport, is_safe, meet_text, meetings_text}
use Rattle.acas_report_lines.specs.Regions.{IsRegionsReport, IsRulingAt, boxes_text, places, regions_text}
use Rattle.acas_report_lines.specs.declared.meet_counts.MeetCounts.{MeetCounts}
use Rattle.acas_report_lines.specs.declared.counts.Counts.{Counts}
use Rattle.acas_report_lines.specs.declared.counts.Which.{Which}
use Rattle.acas_report_lines.specs.declared.counts.Which.TheVariants as which
use Rattle.acas_report_laws.specs.Told.{IsNameOf, names_of}
use Rattle.acas_report_laws.specs.Holds.{Holds, HoldsOfBox, HoldsOfCell, HoldsOfMeeting, HoldsOfVerdict}
use Rattle.acas_report_laws.proofs.Fields.{AreTexts, Same, ruling_texts}
use Rattle.acas_report_laws.proofs.MeetingFields.{SameVerdict, verdict_texts}
use Rattle.acas_report_laws.proofs.Names.{read_cell, cell_is_not_last, read_box, box_is_not_last}
use Rattle.acas_report_laws.proofs.Lines.{AllMay, AreLines, SaysSame, StandOnce, read_alike, read_all, read_reported}
use Rattle.acas_report_laws.proofs.Told.{same_meeting, same_witness}
use Rattle.acas_report_laws.proofs.Danger.{meets_as_printed, shows_as_printed}

-- ---- the lines of a text

cell_lines : (m : ModelData) → IsModel m → AreLines Same (IsNameOf m) (cell_line m)
cell_lines m model = record {
  read = λ x y r q s t nx ny e. read_cell m x y r q s t model nx ny e;
  not_last = λ x r s t e. cell_is_not_last m x r s t e;
}

box_lines : {R : Type 0} (SameAs : R → R → Type 0) (text : R → List ℕ) → AreTexts SameAs text → AreLines SameAs (λ (x : ℕ). x < 10 ^ 63) (line_of_box text)
box_lines SameAs text texts = record {
  read = λ x y r q s t small also e. read_box SameAs text texts x y r q s t small e;
  not_last = λ x r s t e. box_is_not_last text x r s t e;
}

-- the last line, behind its first word
last : Counts → List ℕ
last counts = field (decimal counts.certified) ++ codes " reported" ++ field (decimal counts.reported) ++ codes " clear" ++ field (decimal counts.clear) ++ codes "\n"

boxes_last : Counts → List ℕ
boxes_last counts = field (decimal counts.certified) ++ codes " reported" ++ field (decimal counts.reported) ++ codes "\n"

report_is : (m : ModelData) (a : AdvicesData) (which : Which) (ruled : List (Ruled CellName Ruling)) →
    report_text m a which ruled ≡ lines_of is_certified (cell_line m) which ruled ++ (codes "certified" ++ last (counts_of is_certified ruled (clear_cells m a)))
unfolding report_text counts_text last
report_is m a which ruled = refl

boxes_are : {R : Type 0} (certified : R → Bool) (text : R → List ℕ) (ruled : List (Ruled ℕ R)) →
    boxes_text certified text ruled ≡ lines_of certified (line_of_box text) which.All ruled ++ (codes "certified" ++ boxes_last (counts_of certified ruled 0))
unfolding boxes_text box_counts_text boxes_last
boxes_are certified text ruled = refl

pub same_lines : (m : ModelData) (a : AdvicesData) (ruled other : List (Ruled CellName Ruling)) → IsModel m → AllMay (IsNameOf m) ruled → AllMay (IsNameOf m) other →
    report_text m a which.All ruled ≡ report_text m a which.All other → AllZip (SaysSame Same) ruled other
same_lines m a ruled other model mr mo e =
    read_all Same is_certified (IsNameOf m) (cell_line m) ruled other (last (counts_of is_certified ruled (clear_cells m a))) (last (counts_of is_certified other (clear_cells m a))) (cell_lines m model) mr mo
    (sym (report_is m a which.All ruled) ∙ e ∙ report_is m a which.All other)

pub same_reported : (m : ModelData) (a : AdvicesData) (ruled other : List (Ruled CellName Ruling)) → IsModel m → AllMay (IsNameOf m) ruled → AllMay (IsNameOf m) other →
    StandOnce (names_of ruled) → names_of ruled ≡ names_of other → report_text m a which.Reported ruled ≡ report_text m a which.Reported other → AllZip (SaysSame Same) ruled other
same_reported m a ruled other model mr mo once names e =
    read_reported (IsNameOf m) (cell_line m) ruled other (last (counts_of is_certified ruled (clear_cells m a))) (last (counts_of is_certified other (clear_cells m a))) (cell_lines m model) mr mo once names
    (sym (report_is m a which.Reported ruled) ∙ e ∙ report_is m a which.Reported other)

pub same_boxes : {R : Type 0} (SameAs : R → R → Type 0) (certified : R → Bool) (text : R → List ℕ) → AreTexts SameAs text → (ruled other : List (Ruled ℕ R)) → AllMay (λ x. x < 10 ^ 63) ruled → AllMay (λ x. x < 10 ^ 63) other →
    boxes_text certified text ruled ≡ boxes_text certified text other → AllZip (SaysSame SameAs) ruled other
same_boxes SameAs certified text texts ruled other mr mo e =
    read_all SameAs certified (λ x. x < 10 ^ 63) (line_of_box text) ruled other (boxes_last (counts_of certified ruled 0)) (boxes_last (counts_of certified other 0)) (box_lines SameAs text texts) mr mo
    (sym (boxes_are certified text ruled) ∙ e ∙ boxes_are certified text other)

-- boxes of the same places
same_places : {R : Type 0} (SameAs : R → R → Type 0) (certified : R → Bool) (text : R → List ℕ) → AreTexts SameAs text → (ruled other : List (Ruled ℕ R)) → names_of ruled ≡ names_of other →
    boxes_text certified text ruled ≡ boxes_text certified text other → AllZip (SaysSame SameAs) ruled other
same_places {R} SameAs certified text texts ruled other names e =
    read_alike SameAs certified (line_of_box text) ruled other (codes "certified" ++ boxes_last (counts_of certified ruled 0)) (codes "certified" ++ boxes_last (counts_of certified other 0)) again names
    (sym (boxes_are certified text ruled) ∙ e ∙ boxes_are certified text other)
  where
    again : (x : ℕ) (r q : R) (s t : List ℕ) → line_of_box text x r ++ s ≡ line_of_box text x q ++ t → SameAs r q × (s ≡ t)
    again x r q s t e = texts.read r q s t (append_cancel_left (box_text x) _ _ (sym (append_assoc (box_text x) (text r) s) ∙ e ∙ append_assoc (box_text x) (text q) t))

-- ---- the names of an audit

-- the names of a strictly sorted list stand once
pub sorted_once : (names : List CellName) → IsStrictlySortedBy by_numbers names → StandOnce names
unfolding IsStrictlySortedBy
sorted_once [] sorted = tt
sorted_once (x ∷ names) sorted = (apart names sorted.0, sorted_once names sorted.1)
  where
    never : by_numbers x x ≡ Less → ⊥
    never less = turned (sym less ∙ nat_list_cmp_total.antisymm (numbers x) (numbers x) ∙ ap ordering_reverse less)
      where
        turned : Less ≡ Greater → ⊥
        turned e = cc

    apart : (rest : List CellName) → AllByRecursion (λ y. by_numbers x y ≡ Less) rest → AllByRecursion (λ y. x ≡ y → ⊥) rest
    apart [] all = tt
    apart (y ∷ rest) all = (λ e. never (ap (by_numbers x) e ∙ all.0), apart rest all.1)

-- each is a cell of the model under an advice of it
pub audit_names : (m : ModelData) (a : AdvicesData) → AllByRecursion (IsNameOf m) (advisory_cells m a)
audit_names m a = all_members (IsNameOf m) (advisory_cells m a) (λ name there.
    let r = of_flat_map (names_at m a) (cells_of m) name there in
    let is = of_names m a r.0 name r.2 in
    record { cell = subst (IsCellOf m) (sym is.cell_is) (of_cells m r.0 r.1); advice = is.known })

-- ---- what is said holds

holds : (m : ModelData) (advisory : ℕ) (IsIn : ℕ → State → Type 0) (IsRule : Witness → Type 0) (r q : Ruling) → Same r q → IsRuling m advisory IsIn IsRule q → Holds m advisory IsIn r
holds m advisory IsIn IsRule Certified Certified same is = is
holds m advisory IsIn IsRule Certified (Reported v) same is = absurd same
holds m advisory IsIn IsRule (Reported w) Certified same is = absurd same
holds m advisory IsIn IsRule (Reported w) (Reported v) same is =
    (is.endangered, λ short. shows_as_printed m advisory IsIn w v (same_witness w v short same) is.shown)

holds_of_verdict : (m : ModelData) (may : Manoeuvre) (b : AuditedBox) (r q : MeetVerdict) → SameVerdict r q → IsMeetVerdict m may b q → HoldsOfVerdict m may b r
holds_of_verdict m may b met.Certified met.Certified same is = is
holds_of_verdict m may b met.Certified (met.Reported v) same is = absurd same
holds_of_verdict m may b (met.Reported w) met.Certified same is = absurd same
holds_of_verdict m may b (met.Reported w) (met.Reported v) same is =
    (is.endangered, λ short. meets_as_printed m may b w v (same_meeting w v short same) is.shown)

-- what is said of the same as in true rulings holds
all_hold : {N R : Type 0} (SameAs : R → R → Type 0) (IsRulingOf : N → R → Type 0) (HoldsOf : N → R → Type 0) → ((x : N) (r q : R) → SameAs r q → IsRulingOf x q → HoldsOf x r) →
    (ruled other : List (Ruled N R)) → AllZip (SaysSame SameAs) ruled other → All (λ r. IsRulingOf r.name r.ruling) other → All (λ r. HoldsOf r.name r.ruling) ruled
all_hold {N} {R} SameAs IsRulingOf HoldsOf by [] [] same are = All-nil (λ (r : Ruled N R). HoldsOf r.name r.ruling)
all_hold SameAs IsRulingOf HoldsOf by [] (o ∷ os) same are = absurd same
all_hold SameAs IsRulingOf HoldsOf by (r ∷ rs) [] same are = absurd same
all_hold {N} {R} SameAs IsRulingOf HoldsOf by (r ∷ rs) (o ∷ os) same are =
    All-cons (λ (r : Ruled N R). HoldsOf r.name r.ruling) r rs
    (subst (λ x. HoldsOf x r.ruling) (sym same.0.name) (by o.name r.ruling o.ruling same.0.ruling (All-head (λ (r : Ruled N R). IsRulingOf r.name r.ruling) o os are)))
    (all_hold SameAs IsRulingOf HoldsOf by rs os same.1 (All-tail (λ (r : Ruled N R). IsRulingOf r.name r.ruling) o os are))

pub cells_hold : (m : ModelData) (a : AdvicesData) (lines : Which) (counts : Counts) (text : List ℕ) (ruled : List (Ruled CellName Ruling)) → IsModel m → IsReport m a lines counts text →
    names_of ruled ≡ advisory_cells m a → report_text m a lines ruled ≡ text → All (HoldsOfCell m) ruled
cells_hold m a lines counts text ruled model report names e =
    let same_names : names_of ruled ≡ names_of report.ruled = names ∙ sym report.rulings.all in
    let may = subst (AllByRecursion (IsNameOf m)) (sym names) (audit_names m a) in
    let also = subst (AllByRecursion (IsNameOf m)) same_names may in
    all_hold Same (IsRulingOfCell m) (λ name ruling. HoldsOfCell m (record { name = name; ruling = ruling }))
    (λ name r q same is. holds m name.advice (IsInCell m name.n name.i name.j name.k) (IsWitnessOfCell m name) r q same is)
    ruled report.ruled (by lines may also same_names (e ∙ report.printed)) report.rulings.each
  where
    by : (lines : Which) → AllMay (IsNameOf m) ruled → AllMay (IsNameOf m) report.ruled → names_of ruled ≡ names_of report.ruled →
        report_text m a lines ruled ≡ report_text m a lines report.ruled → AllZip (SaysSame Same) ruled report.ruled
    by which.All may also same e = same_lines m a ruled report.ruled model may also e
    by which.Reported may also same e =
        same_reported m a ruled report.ruled model may also (sorted_once (names_of ruled) (subst (IsStrictlySortedBy by_numbers) (sym names) (sorted_advisory_cells m a))) same e

pub boxes_hold : (m : ModelData) (boxes : List AuditedBox) (counts : Counts) (text : List ℕ) (ruled : List (Ruled ℕ Ruling)) → IsRegionsReport m boxes counts text →
    names_of ruled ≡ places boxes → regions_text ruled ≡ text → All (HoldsOfBox m boxes) ruled
boxes_hold m boxes counts text ruled report names e =
    all_hold Same (IsRulingAt m boxes) (λ place ruling. HoldsOfBox m boxes (record { name = place; ruling = ruling }))
    (λ place r q same is. holds m (box_at boxes place).advisory (IsInBox (box_at boxes place).states) (IsWitnessOfBox m (box_at boxes place)) r q same is)
    ruled report.ruled (same_places Same is_certified ruling_text ruling_texts ruled report.ruled (names ∙ sym report.rulings.all) (e ∙ report.printed)) report.rulings.each

pub meetings_hold : (m : ModelData) (may : Manoeuvre) (boxes : List AuditedBox) (counts : MeetCounts) (text : List ℕ) (ruled : List (Ruled ℕ MeetVerdict)) → IsMeetingsReport m may boxes counts text →
    names_of ruled ≡ places boxes → meetings_text ruled ≡ text → All (HoldsOfMeeting m may boxes) ruled
meetings_hold m may boxes counts text ruled report names e =
    all_hold SameVerdict (IsMeetVerdictAt m may boxes) (λ place verdict. HoldsOfMeeting m may boxes (record { name = place; ruling = verdict }))
    (λ place r q same is. holds_of_verdict m may (box_at boxes place) r q same is)
    ruled report.ruled (same_places SameVerdict is_safe meet_text verdict_texts ruled report.ruled (names ∙ sym report.rulings.all) (e ∙ report.printed)) report.rulings.each
