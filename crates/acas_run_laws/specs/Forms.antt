-- What a form reads, writes and may report.
use Rattle.std.specs.Prelude.{ℕ, pos, List, Option, None, Some, ⊤}
use Rattle.acas_rulings.specs.ManoeuvreLimits.{IsManoeuvre}
use Rattle.acas_cli_words.specs.Words.{Form, Values, Compile, Check, Risk, Audit, Regions, Manoeuvre, Safeable, Replay, Migrate, Drill}

-- the file that it writes, if any
abbrev pub written_by : Form → Option (List ℕ)
written_by (Values model) = None
written_by (Compile model table) = Some table
written_by (Check model table) = None
written_by (Risk model table) = None
written_by (Audit model table which) = None
written_by (Regions model boxes) = None
written_by (Manoeuvre model boxes accel rate) = None
written_by (Safeable model table) = None
written_by (Replay model table encounter) = None
written_by (Migrate model table target) = Some target
written_by (Drill number) = None

-- it is an audit, regions, a manoeuvre, clear cells or a drill
abbrev pub MayReport : Form → Type 0
MayReport (Values model) = ⊥
MayReport (Compile model table) = ⊥
MayReport (Check model table) = ⊥
MayReport (Risk model table) = ⊥
MayReport (Audit model table which) = ⊤
MayReport (Regions model boxes) = ⊤
MayReport (Manoeuvre model boxes accel rate) = ⊤
MayReport (Safeable model table) = ⊤
MayReport (Replay model table encounter) = ⊥
MayReport (Migrate model table target) = ⊥
MayReport (Drill number) = ⊤

-- its intruder, if any, has an acceleration and a rate that words can give
abbrev pub HasIntruder : Form → Type 0
HasIntruder (Manoeuvre model boxes accel rate) = IsManoeuvre (pos accel) (pos rate)
HasIntruder form = ⊤
