use Rattle.std.proofs.Common.{◌<◌, ◌^◌, subst}
use Rattle.std.specs.List.{AllByRecursion}
use Rattle.std.proofs.lemmas.List.Elements.{recursion_from_All}
use Rattle.acas_report_lines.specs.Meetings.{is_safe, meet_text}
use Rattle.acas_report_lines.specs.Text.{is_certified, ruling_text}
use Rattle.acas_report_laws.specs.Told.{IsNameOf, IsShortRuling, IsShortVerdict, names_of, told_of, told_verdict}
use Rattle.acas_report_laws.proofs.Fields.{Same, ruling_texts}
use Rattle.acas_report_laws.proofs.MeetingFields.{SameVerdict, verdict_texts}
use Rattle.acas_report_laws.proofs.Honest.{same_boxes, same_lines, same_reported, sorted_once}
use Rattle.acas_report_laws.proofs.Told.{same_told, same_told_verdict, told_all}
use Rattle.acas_report_laws.proofs.laws.lines_say_their_rulings.Goals as goal

pub returns : goal.returns
returns c = record {
  all = λ m a ruled other model mr mo short e.
      told_all Same IsShortRuling told_of same_told ruled other short
      (same_lines m a ruled other model (recursion_from_All (IsNameOf m) (names_of ruled) mr) (recursion_from_All (IsNameOf m) (names_of other) mo) e);
  reported = λ m a ruled other model mr sorted names short e.
      let may = recursion_from_All (IsNameOf m) (names_of ruled) mr in
      told_all Same IsShortRuling told_of same_told ruled other short
      (same_reported m a ruled other model may (subst (AllByRecursion (IsNameOf m)) names may) (sorted_once (names_of ruled) sorted) names e);
  boxes = λ ruled other mr mo short e.
      told_all Same IsShortRuling told_of same_told ruled other short
      (same_boxes Same is_certified ruling_text ruling_texts ruled other (recursion_from_All (λ place. place < 10 ^ 63) (names_of ruled) mr) (recursion_from_All (λ place. place < 10 ^ 63) (names_of other) mo) e);
  meetings = λ ruled other mr mo short e.
      told_all SameVerdict IsShortVerdict told_verdict same_told_verdict ruled other short
      (same_boxes SameVerdict is_safe meet_text verdict_texts ruled other (recursion_from_All (λ place. place < 10 ^ 63) (names_of ruled) mr) (recursion_from_All (λ place. place < 10 ^ 63) (names_of other) mo) e);
}
