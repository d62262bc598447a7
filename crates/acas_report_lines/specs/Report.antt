-- Reports on what is ruled on, of any kind.
use Rattle.std.specs.Prelude.{◌≡◌, ℕ, not, Bool, false, List, [], ◌++◌, All, map, count_by, if◌then◌else◌, Option, Result, IfOk}
use Rattle.std.specs.List.{flat_map}
use Rattle.acas_outside.specs.Bytes.{Appends, AppendsPart}
use Rattle.acas_report_lines.specs.declared.counts.Counts.{Counts}
use Rattle.acas_report_lines.specs.declared.counts.Which.{Which}
use Rattle.acas_report_lines.specs.declared.counts.Which.TheVariants as which

-- something that is ruled on, and its ruling, of any kind
pub record Ruled (N R : Type 0) : Type 0 where
  pub name : N
  pub ruling : R

-- these are ruled on, in order, and each ruling is one of its own
pub record AreRuled {N R : Type 0} (IsRulingOf : N → R → Type 0) (names : List N) (ruled : List (Ruled N R)) : Type 0 where
  pub all : map (λ (r : Ruled N R). r.name) ruled ≡ names
  pub each : All (λ r. IsRulingOf r.name r.ruling) ruled

-- a line that is left out: a certified one, where only the others are asked for
abbrev pub is_left_out : Which → Bool → Bool
is_left_out which.All certified = false
is_left_out which.Reported certified = certified

-- a line, or nothing where it is left out
abbrev pub shown : Which → Bool → List ℕ → List ℕ
shown which certified line = if is_left_out which certified then [] else line

-- the lines of what is ruled on
abbrev pub lines_of : {N R : Type 0} → (R → Bool) → (N → R → List ℕ) → Which → List (Ruled N R) → List ℕ
lines_of certified line which ruled = flat_map (λ r. shown which (certified r.ruling) (line r.name r.ruling)) ruled

-- how many there are of each kind, whichever lines are left out
abbrev pub counts_of : {N R : Type 0} → (R → Bool) → List (Ruled N R) → ℕ → Counts
counts_of certified ruled clear = record {
  certified = count_by (λ r. certified r.ruling) ruled;
  reported = count_by (λ r. not (certified r.ruling)) ruled;
  clear = clear;
}

-- A report on these: each is ruled on, in order, and the counts and the text are those of the rulings.
pub record IsReportOn {N R : Type 0} (IsRulingOf : N → R → Type 0) (certified : R → Bool) (names : List N) (clear : ℕ) (text_of : List (Ruled N R) → List ℕ) (counts : Counts) (text : List ℕ) : Type 0 where
  pub ruled : List (Ruled N R)
  pub rulings : AreRuled IsRulingOf names ruled
  pub counted : counts ≡ counts_of certified ruled clear
  pub printed : text ≡ text_of ruled

-- a call that answers counts wrote a whole report with them
abbrev pub WroteReport : {C F : Type 0} → (C → List ℕ → Type 0) → Result C F → Option (List ℕ) → Option (List ℕ) → Type 0
WroteReport IsReport result old new = IfOk result (λ counts. (text : List ℕ) × IsReport counts text × Appends old new text)

-- A report that was begun: the first of these are ruled on, in order, and whatever rulings the others had, what went out is a
-- proper prefix of the text.
pub record IsBegun {N R : Type 0} (IsRulingOf : N → R → Type 0) (names : List N) (text_of : List (Ruled N R) → List ℕ) (old new : Option (List ℕ)) : Type 0 where
  pub first : List N
  pub rest : List N
  pub order : first ++ rest ≡ names
  pub ruled : List (Ruled N R)
  pub rulings : AreRuled IsRulingOf first ruled
  pub part : (others : List (Ruled N R)) → map (λ (r : Ruled N R). r.name) others ≡ rest → AppendsPart old new (text_of (ruled ++ others))
