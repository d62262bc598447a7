-- What reports of box files are on.
use Rattle.std.proofs.Common.{Bool, ◌≡◌, ◌≤◌, ◌<◌, ℕ, List, [], ◌∷◌, length, refl, ap, ◌*◌, ◌^◌, arith}
use Rattle.acas_rulings.specs.Boxes.{AuditedBox}
use Rattle.acas_report_lines.specs.Text.{box_counts_text}
use Rattle.acas_report_lines.specs.Regions.{boxes_text, places}
use Rattle.acas_report_lines.specs.Plan.{Room, box_plan, names_in, lines_in, clear_in}
use Rattle.acas_report_lines.specs.declared.counts.Counts.{Counts}
use Rattle.acas_report_lines.proofs.Below.{length_below, names_eq}
use Rattle.acas_report_lines.proofs.Counting.{count_by-never}
use Rattle.acas_report_lines.proofs.Whole.{IsOf}

pub of_boxes : {R : Type 0} (IsRulingOf : AuditedBox → R → Type 0) (certified : R → Bool) (text : R → List ℕ) (boxes : List AuditedBox) → IsOf (box_plan IsRulingOf certified text boxes) (places boxes) (places boxes) 0 (boxes_text certified text) box_counts_text
unfolding names_in lines_in clear_in boxes_text
of_boxes IsRulingOf certified text boxes = record {
  names_are = names_eq (length boxes) (λ place. place ∷ []) (λ place. place ∷ []) (λ place. refl);
  clear_are = count_by-never (places boxes);
  text_is = λ ruled. refl;
}

-- all boxes can be counted
pub room_boxes : {R : Type 0} (IsRulingOf : AuditedBox → R → Type 0) (certified : R → Bool) (text : R → List ℕ) (boxes : List AuditedBox) (counts : Counts) → length boxes < 2 ^ 32 → counts.certified ≡ 0 → counts.reported ≡ 0 → counts.clear ≡ 0 → Room (box_plan IsRulingOf certified text boxes) counts (places boxes)
room_boxes IsRulingOf certified text boxes counts few cert rep clr =
    let is = of_boxes IsRulingOf certified text boxes in
    let all : length (places boxes) ≤ length boxes * 1 = length_below (length boxes) 1 (λ place. place ∷ []) (λ place. omega arith) in
    record { fits = omega (arith, few, cert, rep, clr, all, ap length is.names_are, is.clear_are) }
