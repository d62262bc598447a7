use Rattle.std.proofs.Common.{refl}
use Rattle.acas_flight.proofs.Between.{test_lt, test_ge}
use Rattle.acas_flight.proofs.Curves.{approach-rising, approach-risen, approach-falling, approach-fallen, held-holding, held-held}
use Rattle.acas_flight.proofs.laws.curves_in_numbers.Goals as goal

pub returns : goal.returns
returns c = record {
  rising = approach-rising;
  risen = approach-risen;
  falling = approach-falling;
  fallen = approach-fallen;
  holding = held-holding;
  held = held-held;
  lowest_from_below = λ a v t h. rw (test_lt v a.lo h) (refl, refl);
  lowest_from_lo_on = λ a v t h. rw (test_ge v a.lo h) (refl, refl);
  highest_from_above = λ a v t h. rw (test_lt a.hi v h) (refl, refl);
  highest_up_to_hi = λ a v t h. rw (test_ge a.hi v h) (refl, refl);
}
