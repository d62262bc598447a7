-- Printed flights, and printed meetings with an intruder that changes its rate.
use Rattle.std.specs.Prelude.{ℕ, ℤ, pos, Some, None}
use Rattle.acas_frac.specs.Fraction.{Fraction}
use Rattle.acas_rulings.specs.Boxes.{AuditedBox}
use Rattle.acas_rulings.specs.Intruder.{Manoeuvre}
use Rattle.acas_rulings.specs.declared.flight.Segment.{Segment}
use Rattle.acas_rulings.specs.declared.flight.Witness.{Witness}
use Rattle.acas_rulings.specs.declared.meeting.Meeting.{Meeting}
use Rattle.acas_flight_examples.specs.Flown.{near_box}
use Rattle.acas_flight_examples.specs.Numbers.{from_to, minus, over}

-- a printed segment
abbrev pub part : Fraction → Fraction → Segment
part duration acceleration = record { duration = duration; acceleration = acceleration }

-- at the range n/d and a closing speed, for a time: 1 s at 0 ft/min and 1 s at 100 ft/min per second, 100 ticks below the intruder, which
-- flies level
abbrev pub seen : ℤ → ℕ → ℤ → ℤ → Witness
seen n d speed time = record {
  range = over n d;
  speed = over speed 1;
  flight = record {
    time = over time 1;
    h = pos 100;
    v0 = over (pos 0) 1;
    v1 = over (pos 0) 1;
    hold = Some (over (pos 1) 1);
    first = Some (part (over (pos 1) 1) (over (pos 100) 1));
    second = None;
  };
}

-- at 625 ft and 250 ft/s, for half a second at 0 ft/min, 120 ticks below the intruder, which flies level
abbrev pub half_a_second : Witness
half_a_second = record {
  range = over (pos 625) 1;
  speed = over (pos 250) 1;
  flight = record {
    time = over (pos 1) 2;
    h = pos 120;
    v0 = over (pos 0) 1;
    v1 = over (pos 0) 1;
    hold = Some (over (pos 1) 2);
    first = None;
    second = None;
  };
}

-- 7/2 s, of which the rate is held for 1/2 s, goes down for 2 s and is held again for 1 s; no two of the other numbers are the same
abbrev pub sinking : Witness
sinking = record {
  range = over (pos 9001) 2;
  speed = over (pos 250) 1;
  flight = record {
    time = over (pos 7) 2;
    h = pos 100;
    v0 = over (pos 1000) 3;
    v1 = over (minus 5) 4;
    hold = Some (over (pos 1) 2);
    first = Some (part (over (pos 2) 1) (over (minus 100) 3));
    second = Some (part (over (pos 1) 1) (over (pos 0) 1));
  };
}

-- the same, without a response
abbrev pub at_once : Witness
at_once = record sinking { flight = record sinking.flight { hold = None; first = None; second = None } }

-- two segments at once
abbrev pub levelling : Witness
levelling = record {
  range = over (pos 15_500) 1;
  speed = over (pos 5000) 1;
  flight = record {
    time = over (pos 16) 5;
    h = pos 18_000;
    v0 = over (pos 13_275) 8;
    v1 = over (pos 0) 1;
    hold = None;
    first = Some (part (over (pos 1855) 768) (over (minus 480) 1));
    second = Some (part (over (pos 3013) 3840) (over (pos 0) 1));
  };
}

-- the intruder goes up to its greatest rate
abbrev pub turning : Meeting
turning = record {
  witness = record {
    range = over (pos 15_500) 1;
    speed = over (pos 5000) 1;
    flight = record {
      time = over (pos 16) 5;
      h = pos 14_400;
      v0 = over (pos 1500) 1;
      v1 = over (pos 0) 1;
      hold = None;
      first = Some (part (over (pos 16) 5) (over (pos 0) 1));
      second = None;
    };
  };
  intruder_first = Some (part (over (pos 11_863) 7680) (over (pos 960) 1));
  intruder_second = Some (part (over (pos 12_713) 7680) (over (pos 0) 1));
}

-- ---- a box under climb, and an intruder that may change its rate

-- ranges from 1000 to 1200 ft, closing speeds from 250 to 500 ft/s, altitudes from -10 to 1200 ticks, own rates from 0 to 600 ft/min and
-- intruder rates from 20 to 100
abbrev pub around : AuditedBox
around = record { advisory = 1; states = record near_box { altitude = from_to (minus 10) (pos 1200); own = from_to (pos 0) (pos 600) } }

-- by at most 50 ft/min per second, and to at most 600 ft/min
abbrev pub gentle : Manoeuvre
gentle = record { accel = 50; rate = 600 }

-- at the range n/d and a closing speed, for 2 s: 1 s at 0 ft/min and 1 s at 100 ft/min per second, 10 ticks above an intruder at 20 ft/min that
-- flies 1 s at 50 ft/min per second and 1 s at the rate that it has then
abbrev pub met : ℤ → ℕ → ℤ → Meeting
met n d speed = record {
  witness = record (seen n d speed (pos 2)) { flight = record (seen n d speed (pos 2)).flight { h = minus 10; v1 = over (pos 20) 1 } };
  intruder_first = Some (part (over (pos 1) 1) (over (pos 50) 1));
  intruder_second = Some (part (over (pos 1) 1) (over (pos 0) 1));
}

-- Every number but the altitude is over 2 or whole: from half a ft/min, 1 s at that rate and half a second at 100 ft/min per second, at a
-- range of 750.5 ft and 250.5 ft/s, so far below the intruder, which flies at half a ft/min.
abbrev pub seen_in_halves : ℤ → Witness
seen_in_halves altitude = record {
  range = over (pos 1501) 2;
  speed = over (pos 501) 2;
  flight = record {
    time = over (pos 3) 2;
    h = altitude;
    v0 = over (pos 1) 2;
    v1 = over (pos 1) 2;
    hold = Some (over (pos 1) 1);
    first = Some (record { duration = over (pos 1) 2; acceleration = over (pos 100) 1 });
    second = None;
  };
}
