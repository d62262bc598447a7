-- What is written and counted for a list of items, in order.
use Rattle.std.specs.Prelude.{◌≡◌, ℕ, ◌+◌, ◌<◌, ◌^◌, not, Bool, false, List, [], ◌∷◌, ◌++◌, length, Option, count_by}
use Rattle.std.specs.List.{flat_map}
use Rattle.acas_outside.specs.Bytes.{AppendsPart}
use Rattle.acas_outside.specs.Printing.{Prints}
use Rattle.acas_rulings.specs.Boxes.{AuditedBox}
use Rattle.acas_report_lines.specs.Text.{line_of_box}
use Rattle.acas_report_lines.specs.Report.{Ruled, AreRuled, lines_of}
use Rattle.acas_report_lines.specs.Regions.{IsSaidAt}
use Rattle.acas_report_lines.specs.declared.counts.Counts.{Counts}
use Rattle.acas_report_lines.specs.declared.counts.Which.{Which}
use Rattle.acas_report_lines.specs.declared.counts.Which.TheVariants as which
use Rattle.acas_report_lines.specs.declared.pen.Pen.{Pen}

-- what is ruled on for an item, what a ruling of it is, whether that is certified, its line, which lines are written, and whether an
-- item is clear
pub record Plan (N X R : Type 0) : Type 1 where
  pub IsRulingOf : N → R → Type 0
  pub certified : R → Bool
  pub line : N → R → List ℕ
  pub which : Which
  pub names : X → List N
  pub is_clear : X → Bool

-- all that is ruled on, in order
unfoldable pub names_in : {N X R : Type 0} → Plan N X R → List X → List N
names_in plan items = flat_map plan.names items

-- the lines of what is ruled on
unfoldable pub lines_in : {N X R : Type 0} → Plan N X R → List (Ruled N R) → List ℕ
lines_in plan ruled = lines_of plan.certified plan.line plan.which ruled

-- how many of them are certified
unfoldable pub certified_in : {N R : Type 0} → (R → Bool) → List (Ruled N R) → ℕ
certified_in certified ruled = count_by (λ r. certified r.ruling) ruled

-- how many of them are reported
unfoldable pub reported_in : {N R : Type 0} → (R → Bool) → List (Ruled N R) → ℕ
reported_in certified ruled = count_by (λ r. not (certified r.ruling)) ruled

-- how many items are clear
unfoldable pub clear_in : {N X R : Type 0} → Plan N X R → List X → ℕ
clear_in plan items = count_by plan.is_clear items

-- how far a report is: what was written, what waits to be, and the counts
pub record Progress : Type 0 where
  pub written : Option (List ℕ)
  pub waits : List ℕ
  pub counts : Counts

-- how far a pen is, where this was written
abbrev pub progress : Option (List ℕ) → Pen → Progress
progress written pen = record { written = written; waits = pen.out.buffer; counts = pen.counts }

-- these items were ruled on, printed and counted
pub record Wrote {N X R : Type 0} (plan : Plan N X R) (old new : Progress) (items : List X) : Type 0 where
  pub ruled : List (Ruled N R)
  pub rulings : AreRuled plan.IsRulingOf (names_in plan items) ruled
  pub printed : Prints old.written new.written old.waits new.waits (lines_in plan ruled)
  pub certified : new.counts.certified ≡ old.counts.certified + certified_in plan.certified ruled
  pub reported : new.counts.reported ≡ old.counts.reported + reported_in plan.certified ruled
  pub clear : new.counts.clear ≡ old.counts.clear + clear_in plan items

-- printing these items failed: the first were ruled on, and a proper prefix of what waited and of their lines went out
pub record Broke {N X R : Type 0} (plan : Plan N X R) (old : Option (List ℕ)) (waited : List ℕ) (new : Option (List ℕ)) (items : List X) : Type 0 where
  pub first : List N
  pub rest : List N
  pub order : first ++ rest ≡ names_in plan items
  pub ruled : List (Ruled N R)
  pub rulings : AreRuled plan.IsRulingOf first ruled
  pub part : AppendsPart old new (waited ++ lines_in plan ruled)

-- ---- room for the counts

-- all that is counted
abbrev pub total : Counts → ℕ
total counts = counts.certified + counts.reported + counts.clear

-- all these items can be counted
pub record Room {N X R : Type 0} (plan : Plan N X R) (counts : Counts) (items : List X) : Type 0 where
  pub fits : total counts + length (names_in plan items) + clear_in plan items < 2 ^ 64

-- ---- plans

-- each item is ruled on itself
abbrev pub single_plan : {N R : Type 0} → (N → R → Type 0) → (R → Bool) → (N → R → List ℕ) → Which → Plan N N R
single_plan IsRulingOf certified line which = record {
  IsRulingOf = IsRulingOf;
  certified = certified;
  line = line;
  which = which;
  names = λ name. name ∷ [];
  is_clear = λ name. false;
}

-- the plan of boxes by their places
abbrev pub box_plan : {R : Type 0} → (AuditedBox → R → Type 0) → (R → Bool) → (R → List ℕ) → List AuditedBox → Plan ℕ ℕ R
box_plan IsRulingOf certified text boxes = single_plan (IsSaidAt IsRulingOf boxes) certified (line_of_box text) which.All
