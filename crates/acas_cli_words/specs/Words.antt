-- The forms of words.
use Rattle.std.specs.Prelude.{ℕ, nat_le, not, ◌==◌, ◌&&◌, Bool, List, [], ◌∷◌, length, slice_index, unsigned_abs, Option, Some, None, if◌then◌else◌, codes}
use Rattle.std.specs.Option.{option_map}
use Rattle.std.specs.Str.{bytes_eq}
use Rattle.acas_units.specs.declared.limits.TheConstants.{FILE_NAME_BYTES, GREATEST_LIMIT, GREATEST_RATE}
use Rattle.acas_drill_model.specs.Word.{drill_number, number_within}
use Rattle.acas_report_lines.specs.declared.counts.Which.{Which}
use Rattle.acas_report_lines.specs.declared.counts.Which.TheVariants.{All, Reported}

-- a command with the names of its files, each as the bytes of its word, which lines an audit prints, an intruder's greatest acceleration
-- and greatest rate, and a drill's number
pub data Form : Type 0 where
  Values : (model : List ℕ) → Form
  Compile : (model table : List ℕ) → Form
  Check : (model table : List ℕ) → Form
  Risk : (model table : List ℕ) → Form
  Audit : (model table : List ℕ) (which : Which) → Form
  Regions : (model boxes : List ℕ) → Form
  Manoeuvre : (model boxes : List ℕ) (accel rate : ℕ) → Form
  Safeable : (model table : List ℕ) → Form
  Replay : (model table encounter : List ℕ) → Form
  Migrate : (model table target : List ℕ) → Form
  Drill : (number : ℕ) → Form

-- a file is named by at least one byte and not too many, the first of which is no `-`
abbrev pub is_file_name : List ℕ → Bool
is_file_name word = nat_le 1 (length word) && nat_le (length word) FILE_NAME_BYTES && not (slice_index word 0 == 45)

-- two names of files, which may be the same
abbrev pub are_file_names : List ℕ → List ℕ → Bool
are_file_names first second = is_file_name first && is_file_name second

-- two names of files, of which the second is written, and so is not the first
abbrev pub are_apart : List ℕ → List ℕ → Bool
are_apart read written = are_file_names read written && not (bytes_eq read written)

-- the numbers that words name: an intruder's greatest acceleration, and its greatest rate
abbrev pub accel_of : List ℕ → Option ℕ
accel_of word = number_within 1 GREATEST_LIMIT word

abbrev pub rate_of : List ℕ → Option ℕ
rate_of word = number_within 1 (unsigned_abs GREATEST_RATE) word

-- the form of two files and these numbers, where there are both
abbrev pub manoeuvre_of : List ℕ → List ℕ → Option ℕ → Option ℕ → Option Form
manoeuvre_of model boxes None rate = None
manoeuvre_of model boxes (Some accel) None = None
manoeuvre_of model boxes (Some accel) (Some rate) = Some (Manoeuvre model boxes accel rate)

-- the form that the words have; most words have none
abbrev pub form_of : List (List ℕ) → Option Form
form_of (verb ∷ word ∷ []) =
    if bytes_eq verb (codes "values") && is_file_name word then Some (Values word)
    else if bytes_eq verb (codes "drill") then option_map Drill (drill_number word)
    else None
form_of (verb ∷ model ∷ second ∷ []) =
    if bytes_eq verb (codes "compile") && are_apart model second then Some (Compile model second)
    else if bytes_eq verb (codes "check") && are_file_names model second then Some (Check model second)
    else if bytes_eq verb (codes "risk") && are_file_names model second then Some (Risk model second)
    else if bytes_eq verb (codes "audit") && are_file_names model second then Some (Audit model second All)
    else if bytes_eq verb (codes "regions") && are_file_names model second then Some (Regions model second)
    else if bytes_eq verb (codes "safeable") && are_file_names model second then Some (Safeable model second)
    else None
form_of (verb ∷ model ∷ table ∷ third ∷ []) =
    if bytes_eq verb (codes "audit") && are_file_names model table && bytes_eq third (codes "--reported") then Some (Audit model table Reported)
    else if bytes_eq verb (codes "replay") && are_file_names model table && is_file_name third then Some (Replay model table third)
    else if bytes_eq verb (codes "migrate") && are_apart model third && are_apart table third then Some (Migrate model table third)
    else None
form_of (verb ∷ model ∷ boxes ∷ accel ∷ rate ∷ []) =
    if bytes_eq verb (codes "manoeuvre") && are_file_names model boxes then manoeuvre_of model boxes (accel_of accel) (rate_of rate) else None
form_of words = None

-- the files that a form names
abbrev pub names_of : Form → List (List ℕ)
names_of (Values model) = model ∷ []
names_of (Compile model table) = model ∷ table ∷ []
names_of (Check model table) = model ∷ table ∷ []
names_of (Risk model table) = model ∷ table ∷ []
names_of (Audit model table which) = model ∷ table ∷ []
names_of (Regions model boxes) = model ∷ boxes ∷ []
names_of (Manoeuvre model boxes accel rate) = model ∷ boxes ∷ []
names_of (Safeable model table) = model ∷ table ∷ []
names_of (Replay model table encounter) = model ∷ table ∷ encounter ∷ []
names_of (Migrate model table target) = model ∷ table ∷ target ∷ []
names_of (Drill number) = []
