-- What is printed of a model's fault.
use Rattle.std.specs.Prelude.{ℕ, ℤ, List, ◌++◌, codes, Option, Some, None}
use Rattle.std.specs.Fmt.{decimal, signed_decimal}
use Rattle.acas_units.specs.declared.limits.TheConstants.{GREATEST_ENTRIES, GREATEST_TOTAL_WEIGHT}
use Rattle.acas_doc.specs.declared.fault.DocKind.{DocKind}
use Rattle.acas_doc.specs.declared.fault.DocKind.TheVariants.{Missing, WrongKind, OutOfRange, UnknownKey}
use Rattle.acas_grid.specs.declared.axis.AxisFault.{AxisFault}
use Rattle.acas_grid.specs.declared.axis.AxisFault.TheVariants.{TooShort, TooLong, NotRising}
use Rattle.acas_model.specs.declared.fault.AxisName.{AxisName}
use Rattle.acas_model.specs.declared.fault.AxisName.TheVariants.{Altitude, OwnRate, IntruderRate}
use Rattle.acas_model.specs.declared.fault.ModelFault.{ModelFault}
use Rattle.acas_model.specs.declared.fault.ModelFault.TheVariants as fault

-- a number that is out of its range
unfoldable pub range_text : ℤ → ℤ → ℤ → List ℕ
range_text value least greatest = codes " value " ++ signed_decimal value ++ codes " outside " ++ signed_decimal least ++ codes " to " ++ signed_decimal greatest

-- what is wrong with a key, behind its path
abbrev pub kind_text : DocKind → List ℕ
kind_text Missing = codes " missing"
kind_text WrongKind = codes " wrong kind"
kind_text (OutOfRange value least greatest) = range_text value least greatest
kind_text UnknownKey = codes " unknown"

-- an axis by its key
abbrev pub axis_word : AxisName → List ℕ
axis_word Altitude = codes "altitude"
axis_word OwnRate = codes "own_rate"
axis_word IntruderRate = codes "intruder_rate"

-- what is wrong with an axis
abbrev pub axis_text : AxisName → AxisFault → List ℕ
axis_text axis TooShort = codes "axis " ++ axis_word axis ++ codes " too short"
axis_text axis TooLong = codes "axis " ++ axis_word axis ++ codes " too long"
axis_text axis (NotRising place) = codes "axis " ++ axis_word axis ++ codes " not rising at " ++ decimal place

-- whose name it is: an advisory's own, or one of its choices
abbrev pub name_text : List ℕ → List ℕ → ℕ → Option ℕ → List ℕ
name_text own choice advisory None = own ++ decimal advisory
name_text own choice advisory (Some place) = choice ++ decimal advisory ++ codes " at " ++ decimal place

-- a name that stands twice
abbrev pub repeated_text : ℕ → Option ℕ → List ℕ
repeated_text advisory choice = name_text (codes "repeated name of advisory ") (codes "repeated choice of advisory ") advisory choice

-- an unknown name is always a choice's
abbrev pub unknown_text : ℕ → Option ℕ → List ℕ
unknown_text advisory choice = name_text (codes "unknown choice of advisory ") (codes "unknown choice of advisory ") advisory choice

-- what ties the numbers of a model, with the values that break it
unfoldable pub weights_text : ℤ → List ℕ
weights_text total = codes "weights " ++ signed_decimal total ++ codes " over " ++ decimal GREATEST_TOTAL_WEIGHT

unfoldable pub window_text : ℤ → ℤ → List ℕ
window_text needed allowed = codes "window " ++ signed_decimal needed ++ codes " over " ++ signed_decimal allowed

unfoldable pub entries_text : ℕ → List ℕ
entries_text entries = codes "entries " ++ decimal entries ++ codes " over " ++ decimal GREATEST_ENTRIES

-- the rule that a model's text fails
abbrev pub fault_text : ModelFault → List ℕ
fault_text fault.NotToml = codes "not toml"
fault_text (fault.Doc at) = codes "key " ++ at.key ++ kind_text at.kind
fault_text (fault.Axis axis at) = axis_text axis at
fault_text (fault.Interval advisory) = codes "interval of advisory " ++ decimal advisory
fault_text (fault.NoChoice advisory) = codes "no choice of advisory " ++ decimal advisory
fault_text (fault.UnknownName at) = unknown_text at.advisory at.choice
fault_text (fault.RepeatedName at) = repeated_text at.advisory at.choice
fault_text (fault.Weights total) = weights_text total
fault_text (fault.Window needed allowed) = window_text needed allowed
fault_text (fault.TooManyEntries entries) = entries_text entries
fault_text fault.Memory = codes "out of memory"
