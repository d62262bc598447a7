-- A box, and its keys.
use Rattle.std.specs.Prelude.{ℕ, ℤ, pos, List, [], ◌∷◌, codes}
use Rattle.toml.specs.Data.{Members, no_members, member, string}
use Rattle.acas_flight.specs.State.{Interval}
use Rattle.acas_rulings.specs.Boxes.{AuditedBox}
use Rattle.acas_rulings.specs.Intruder.{Manoeuvre}
use Rattle.acas_examples.specs.Parts.{minus}
use Rattle.acas_text_examples.specs.Documents.{numbers}

-- the numbers from one to another
abbrev pub between : ℤ → ℤ → Interval
between least greatest = record { least = least; greatest = greatest }

-- a box under level, 10 to 20 ft above, of an intruder whose rates are these
abbrev pub box_of : Interval → AuditedBox
box_of intruder = record {
  advisory = 1;
  states = record {
    range = between (pos 500) (pos 900);
    closing = between (pos 400) (pos 500);
    altitude = between (pos 1200) (pos 2400);
    own = between (pos 0) (pos 60);
    intruder = intruder;
  };
}

-- the keys of the box whose intruder climbs or descends with at most 60 ft/min
abbrev pub box_keys : Members
box_keys = member (codes "advisory") (string (codes "level"))
    (member (codes "altitude") (numbers (pos 10 ∷ pos 20 ∷ []))
    (member (codes "closing") (numbers (pos 400 ∷ pos 500 ∷ []))
    (member (codes "intruder") (numbers (minus 60 ∷ pos 60 ∷ []))
    (member (codes "own") (numbers (pos 0 ∷ pos 60 ∷ []))
    (member (codes "range") (numbers (pos 500 ∷ pos 900 ∷ [])) no_members)))))

-- three boxes, of which the second and the third have an intruder that may be too fast
abbrev pub three_boxes : List AuditedBox
three_boxes = box_of (between (minus 60) (pos 60)) ∷ box_of (between (minus 61) (pos 60)) ∷ box_of (between (minus 60) (pos 61)) ∷ []

-- an intruder of at most this rate
abbrev pub at_rate : ℕ → Manoeuvre
at_rate rate = record { accel = 1; rate = rate }
