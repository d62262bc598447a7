-- The one report of an audit, and of boxes, where each has one ruling.
use Rattle.std.proofs.Common.{◌≡◌, ℕ, ◌<◌, List, [], ◌∷◌, length, All, Option, refl, ap, subst}
use Rattle.std.proofs.lemmas.List.Elements.{All-from_recursion, All-weaker}
use Rattle.acas_spec.specs.Model.{ModelData}
use Rattle.acas_base.specs.Advices.{AdvicesData}
use Rattle.acas_outside.specs.Bytes.{AppendsPart}
use Rattle.acas_rulings.specs.Boxes.{AuditedBox}
use Rattle.acas_cells.specs.Corners.{advisory_cells}
use Rattle.acas_rulings.specs.Rulings.{IsRulingOfCell}
use Rattle.acas_cells.specs.declared.name.CellName.{CellName}
use Rattle.acas_cells.proofs.Lists.{all_members, of_below, of_one}
use Rattle.acas_rulings.specs.Intruder.{Manoeuvre}
use Rattle.acas_report_lines.specs.Meetings.{IsMeetVerdictAt, IsMeetingsBegun, IsMeetingsReport, as_counts, is_safe, meetings_text}
use Rattle.acas_report_lines.specs.Report.{counts_of}
use Rattle.acas_report_lines.specs.Text.{is_certified}
use Rattle.acas_report_lines.specs.Regions.{IsRegionsReport, IsRegionsReportBegun, IsRulingAt, places, regions_text}
use Rattle.acas_report_lines.specs.declared.counts.Counts.{Counts}
use Rattle.acas_report_lines.specs.declared.counts.Which.{Which}
use Rattle.acas_report_lines.specs.declared.meet_counts.MeetCounts.{MeetCounts}
use Rattle.acas_report_lines.proofs.Begun.{HasRuling}
use Rattle.acas_report_lines.specs.CellReport.{IsReport, IsReportBegun, clear_cells, report_text}
use Rattle.acas_report_laws.specs.Told.{IsNameOf}
use Rattle.acas_report_laws.proofs.Honest.{audit_names}
use Rattle.acas_report_laws.proofs.One.{HasOneRuling, begun_report, one_report, some_report}

-- what holds of each cell of the model under an advice of it holds of each advisory cell
every_name : (P : CellName → Type 0) (m : ModelData) (a : AdvicesData) → ((name : CellName) → IsNameOf m name → P name) → All P (advisory_cells m a)
every_name P m a each = All-weaker (IsNameOf m) P each (advisory_cells m a) (All-from_recursion (IsNameOf m) (advisory_cells m a) (audit_names m a))

-- what holds of each place below the length of a list of boxes holds of its places
every_place : (P : ℕ → Type 0) (boxes : List AuditedBox) → ((place : ℕ) → place < length boxes → P place) → All P (places boxes)
every_place P boxes each = All-from_recursion P (places boxes) (all_members P (places boxes) (λ place there.
    let r = of_below (length boxes) (λ k. k ∷ []) place there in
    subst P (of_one r.0 place r.2) (each r.0 r.1)))

pub some_audit : (m : ModelData) (a : AdvicesData) (lines : Which) → ((name : CellName) → IsNameOf m name → HasRuling (IsRulingOfCell m) name) →
    (counts : Counts) × (text : List ℕ) × IsReport m a lines counts text
some_audit m a lines each = some_report (IsRulingOfCell m) is_certified (advisory_cells m a) (clear_cells m a) (report_text m a lines) (every_name (HasRuling (IsRulingOfCell m)) m a each)

pub one_audit : (m : ModelData) (a : AdvicesData) (lines : Which) (counts c : Counts) (text t : List ℕ) → ((name : CellName) → IsNameOf m name → HasOneRuling (IsRulingOfCell m) name) →
    IsReport m a lines counts text → IsReport m a lines c t → (counts ≡ c) × (text ≡ t)
one_audit m a lines counts c text t each report other =
    one_report (IsRulingOfCell m) is_certified (advisory_cells m a) (clear_cells m a) (report_text m a lines) counts c text t (every_name (HasOneRuling (IsRulingOfCell m)) m a each) report other

pub begun_audit : (m : ModelData) (a : AdvicesData) (lines : Which) (old new : Option (List ℕ)) (counts : Counts) (text : List ℕ) → ((name : CellName) → IsNameOf m name → HasOneRuling (IsRulingOfCell m) name) →
    IsReportBegun m a lines old new → IsReport m a lines counts text → AppendsPart old new text
begun_audit m a lines old new counts text each begun report =
    begun_report (IsRulingOfCell m) is_certified (advisory_cells m a) (clear_cells m a) (report_text m a lines) old new counts text (every_name (HasOneRuling (IsRulingOfCell m)) m a each) begun report

pub some_regions : (m : ModelData) (boxes : List AuditedBox) → ((place : ℕ) → place < length boxes → HasRuling (IsRulingAt m boxes) place) →
    (counts : Counts) × (text : List ℕ) × IsRegionsReport m boxes counts text
some_regions m boxes each = some_report (IsRulingAt m boxes) is_certified (places boxes) 0 regions_text (every_place (HasRuling (IsRulingAt m boxes)) boxes each)

pub one_regions : (m : ModelData) (boxes : List AuditedBox) (counts c : Counts) (text t : List ℕ) → ((place : ℕ) → place < length boxes → HasOneRuling (IsRulingAt m boxes) place) →
    IsRegionsReport m boxes counts text → IsRegionsReport m boxes c t → (counts ≡ c) × (text ≡ t)
one_regions m boxes counts c text t each report other =
    one_report (IsRulingAt m boxes) is_certified (places boxes) 0 regions_text counts c text t (every_place (HasOneRuling (IsRulingAt m boxes)) boxes each) report other

pub begun_regions : (m : ModelData) (boxes : List AuditedBox) (old new : Option (List ℕ)) (counts : Counts) (text : List ℕ) → ((place : ℕ) → place < length boxes → HasOneRuling (IsRulingAt m boxes) place) →
    IsRegionsReportBegun m boxes old new → IsRegionsReport m boxes counts text → AppendsPart old new text
begun_regions m boxes old new counts text each begun report =
    begun_report (IsRulingAt m boxes) is_certified (places boxes) 0 regions_text old new counts text (every_place (HasOneRuling (IsRulingAt m boxes)) boxes each) begun report

-- ---- against an intruder that may change its rate

pub some_meetings : (m : ModelData) (may : Manoeuvre) (boxes : List AuditedBox) → ((place : ℕ) → place < length boxes → HasRuling (IsMeetVerdictAt m may boxes) place) →
    (counts : MeetCounts) × (text : List ℕ) × IsMeetingsReport m may boxes counts text
some_meetings m may boxes each =
    let some = some_report (IsMeetVerdictAt m may boxes) is_safe (places boxes) 0 meetings_text (every_place (HasRuling (IsMeetVerdictAt m may boxes)) boxes each) in
    let report = some.2 in
    let counts = counts_of is_safe report.ruled 0 in (
      record { certified = counts.certified; reported = counts.reported },
      some.1,
      record { ruled = report.ruled; rulings = report.rulings; counted = refl; printed = report.printed },
    )

pub one_meetings : (m : ModelData) (may : Manoeuvre) (boxes : List AuditedBox) (counts c : MeetCounts) (text t : List ℕ) → ((place : ℕ) → place < length boxes → HasOneRuling (IsMeetVerdictAt m may boxes) place) →
    IsMeetingsReport m may boxes counts text → IsMeetingsReport m may boxes c t → (counts ≡ c) × (text ≡ t)
one_meetings m may boxes counts c text t each report other =
    let one = one_report (IsMeetVerdictAt m may boxes) is_safe (places boxes) 0 meetings_text (as_counts counts) (as_counts c) text t (every_place (HasOneRuling (IsMeetVerdictAt m may boxes)) boxes each) report other in
    (ap (λ (k : Counts). fewer k) one.0, one.1)
  where
    fewer : Counts → MeetCounts
    fewer k = record { certified = k.certified; reported = k.reported }

pub begun_meetings : (m : ModelData) (may : Manoeuvre) (boxes : List AuditedBox) (old new : Option (List ℕ)) (counts : MeetCounts) (text : List ℕ) → ((place : ℕ) → place < length boxes → HasOneRuling (IsMeetVerdictAt m may boxes) place) →
    IsMeetingsBegun m may boxes old new → IsMeetingsReport m may boxes counts text → AppendsPart old new text
begun_meetings m may boxes old new counts text each begun report =
    begun_report (IsMeetVerdictAt m may boxes) is_safe (places boxes) 0 meetings_text old new (as_counts counts) text (every_place (HasOneRuling (IsMeetVerdictAt m may boxes)) boxes each) begun report
