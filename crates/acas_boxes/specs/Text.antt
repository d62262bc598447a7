-- What a text of boxes says, key by key and in no order: each key holds the box's numbers, there are no other keys, and each box is
-- within its limits and one that the model can audit.
use Rattle.std.specs.Prelude.{◌≡◌, ℕ, ◌≤◌, List, [], ◌∷◌, length, map, codes, ℤ, pos, ◌≤ℤ◌, Some, IsUtf8}
use Rattle.toml.specs.Data.{Members, integer}
use Rattle.toml.specs.Parse.{parse_document}
use Rattle.acas_units.specs.declared.limits.TheConstants.{LEAST_BOXES, GREATEST_BOXES, LEAST_BOX_RANGE, GREATEST_BOX_RANGE, LEAST_CLOSING, GREATEST_CLOSING, LEAST_ALTITUDE, GREATEST_ALTITUDE, LEAST_RATE, GREATEST_RATE}
use Rattle.acas_spec.specs.Model.{ModelData, advisory_at}
use Rattle.acas_model.specs.Text.{HasOnly, HoldsWhole, HoldsText, HoldsList, HoldsTables}
use Rattle.acas_flight.specs.State.{Interval}
use Rattle.acas_rulings.specs.Boxes.{AreBoxesOf, AuditedBox, box_at}
use Rattle.acas_doc.specs.declared.input.TheConstants.{INPUT_VERSION}
use Rattle.acas_boxes.specs.Spans.{in_ticks}

-- the key holds the least and the greatest number of an interval; they are in order and within limits
pub record HoldsInterval (ms : Members) (key : List ℕ) (least greatest : ℤ) (s : Interval) : Type 0 where
  pub there : HoldsList ms key (map integer (s.least ∷ s.greatest ∷ []))
  pub low : least ≤ℤ s.least
  pub ordered : s.least ≤ℤ s.greatest
  pub high : s.greatest ≤ℤ greatest

-- the key holds in feet the altitudes of an interval in ticks
pub record HoldsAltitudes (ms : Members) (key : List ℕ) (s : Interval) : Type 0 where
  pub feet : Interval
  pub holds : HoldsInterval ms key LEAST_ALTITUDE GREATEST_ALTITUDE feet
  pub ticks : s ≡ in_ticks feet

-- a table says a box: the name of its advisory and its five intervals
pub record IsBoxText (m : ModelData) (b : AuditedBox) (t : Members) : Type 0 where
  pub advisory : HoldsText t (codes "advisory") (advisory_at m b.advisory).name
  pub range : HoldsInterval t (codes "range") LEAST_BOX_RANGE GREATEST_BOX_RANGE b.states.range
  pub closing : HoldsInterval t (codes "closing") (pos LEAST_CLOSING) (pos GREATEST_CLOSING) b.states.closing
  pub altitude : HoldsAltitudes t (codes "altitude") b.states.altitude
  pub own : HoldsInterval t (codes "own") LEAST_RATE GREATEST_RATE b.states.own
  pub intruder : HoldsInterval t (codes "intruder") LEAST_RATE GREATEST_RATE b.states.intruder

-- the bytes are a text in UTF-8, a TOML document, and its keys say these boxes, which the model can audit
pub record IsBoxesText (m : ModelData) (bytes : List ℕ) (boxes : List AuditedBox) : Type 0 where
  pub text : IsUtf8 bytes
  pub doc : Members
  pub toml : parse_document bytes ≡ Some doc
  pub keys : HasOnly (codes "version box") doc
  pub version : HoldsWhole doc (codes "version") INPUT_VERSION
  pub tables :
      HoldsTables doc (codes "box") (codes "advisory range closing altitude own intruder") (length boxes) (λ k t. IsBoxText m (box_at boxes k) t)
  pub some : LEAST_BOXES ≤ length boxes
  pub few : length boxes ≤ GREATEST_BOXES
  pub fits : AreBoxesOf m boxes
