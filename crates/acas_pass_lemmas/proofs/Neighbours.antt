-- Neighbours of each pass differ by less than the thinnest puck is thick.
use Rattle.std.proofs.Common.{◌≡◌, ℕ, ◌+◌, ◌-◌, ◌*◌, ◌<◌, ◌≤◌, ap, arith, Bool, true, false, cond, ℤ, pos, ◌+ℤ◌, ◌-ℤ◌, ◌*ℤ◌, ◌≤ℤ◌, ◌<ℤ◌, int_lt, unsigned_abs, min, mul-pos, mul-le-mul_right}
use Rattle.std.proofs.lemmas.Int.{ints, unsigned_abs-mul}
use Rattle.acas_flight.proofs.Between.{test_lt, test_ge}
use Rattle.acas_flight_lemmas.proofs.Rising.{scaled_le}
use Rattle.acas_flight.specs.Response.{Demand}
use Rattle.acas_flight.specs.Curves.{low_pull, low_hold, high_pull, high_hold}
use Rattle.acas_areas.specs.Passes.{toward, rising, falling}
use Rattle.acas_areas.specs.Search.{Search, IsSearch, grain, unit, time_step, rate_step, over_square, high_time, fastest}
use Rattle.acas_units.specs.declared.limits.TheConstants.{WINDOW_SECONDS}
use Rattle.acas_areas.specs.declared.steps.TheConstants.{TIME_STEPS, PULL_STEPS, RATE_STEPS}

-- ---- one step on the way

pub toward_up : {P : Type 0} (from to n s : ℕ) → from ≤ to → ((d : ℕ) → d ≤ s → toward from to (n + s) ≡ toward from to n + d → P) → P
toward_up from to n s h f = f (min (n + s) (to - from) - min n (to - from)) (omega arith) (omega arith)

pub toward_down : {P : Type 0} (from to n s : ℕ) → to ≤ from → ((d : ℕ) → d ≤ s → toward from to n ≡ toward from to (n + s) + d → P) → P
toward_down from to n s h f = f (min (n + s) (from - to) - min n (from - to)) (omega arith) (omega arith)

pub rising_next : {P : Type 0} (from to : ℤ) (n s : ℕ) → ((d : ℕ) → d ≤ s → rising from to (n + s) ≡ rising from to n +ℤ pos d → P) → P
rising_next from to n s f = f (min (n + s) (unsigned_abs (to -ℤ from)) - min n (unsigned_abs (to -ℤ from))) (omega arith) (omega (arith, ints))

pub falling_next : {P : Type 0} (from to : ℤ) (n s : ℕ) → ((d : ℕ) → d ≤ s → falling from to (n + s) ≡ falling from to n -ℤ pos d → P) → P
falling_next from to n s f = f (min (n + s) (unsigned_abs (from -ℤ to)) - min n (unsigned_abs (from -ℤ to))) (omega arith) (omega (arith, ints))

pub rising_least : (from to : ℤ) (n : ℕ) → from ≤ℤ rising from to n
rising_least from to n = omega (arith, ints)

pub next : (i s : ℕ) → (i + 1) * s ≡ i * s + s
next i s = omega arith

-- ---- the pull and the hold on either side

pub pull_above : (a : Demand) (v : ℤ) → a.hi <ℤ v → high_pull a v ≡ a.pull
pull_above a v h = ap (λ t. cond t a.pull a.limit) (test_lt a.hi v h)

pub pull_to : (a : Demand) (v : ℤ) → v ≤ℤ a.hi → high_pull a v ≡ a.limit
pull_to a v h = ap (λ t. cond t a.pull a.limit) (test_ge a.hi v h)

pub hold_above : (a : Demand) (v : ℤ) → a.hi <ℤ v → high_hold a v ≡ a.delay
hold_above a v h = ap (λ t. cond t a.delay 0) (test_lt a.hi v h)

pub hold_to : (a : Demand) (v : ℤ) → v ≤ℤ a.hi → high_hold a v ≡ 0
hold_to a v h = ap (λ t. cond t a.delay 0) (test_ge a.hi v h)

one_of : (t : Bool) (m n : ℕ) → 0 < m → m ≤ n → (m ≤ cond t m n) × (cond t m n ≤ n) × (0 < cond t m n)
one_of true m n p h = (omega arith, h, p)
one_of false m n p h = (h, omega arith, omega arith)

-- a pull is from the least to the limit
pub low_pull_within : (a : Demand) (v : ℤ) → 0 < a.pull → a.pull ≤ a.limit → (a.pull ≤ low_pull a v) × (low_pull a v ≤ a.limit) × (0 < low_pull a v)
low_pull_within a v p h = one_of (int_lt v a.lo) a.pull a.limit p h

pub high_pull_within : (a : Demand) (v : ℤ) → 0 < a.pull → a.pull ≤ a.limit → (a.pull ≤ high_pull a v) × (high_pull a v ≤ a.limit) × (0 < high_pull a v)
high_pull_within a v p h = one_of (int_lt a.hi v) a.pull a.limit p h

none_or : (t : Bool) (n : ℕ) → cond t n 0 ≤ n
none_or true n = omega arith
none_or false n = omega arith

pub low_hold_within : (a : Demand) (v : ℤ) → low_hold a v ≤ a.delay
low_hold_within a v = none_or (int_lt v a.lo) a.delay

pub high_hold_within : (a : Demand) (v : ℤ) → high_hold a v ≤ a.delay
high_hold_within a v = none_or (int_lt a.hi v) a.delay

-- ---- sizes over the common denominator

pub size_over : (v : ℤ) (n q : ℕ) → unsigned_abs v ≤ n → unsigned_abs (v *ℤ pos q) ≤ n * q
size_over v n q h = rw (unsigned_abs-mul v (pos q)) (mul-le-mul_right q h)

module _ (s : Search) (is : IsSearch s) where
  pub grain_some : 0 < s.low.den * s.high.den
  grain_some = mul-pos is.low.some is.high.some

  pub unit_some : 0 < PULL_STEPS * (s.low.den * s.high.den)
  unit_some = let g = grain_some in omega arith

  pub pull_some : 0 < s.demand.pull * unit s
  pull_some = mul-pos is.demand.some_pull unit_some

  pub pull_most : s.demand.pull * unit s ≤ s.demand.limit * unit s
  pull_most = mul-le-mul_right (unit s) is.demand.pull_within

  pub high_time_most : high_time s ≤ WINDOW_SECONDS * unit s
  high_time_most =
      let n : unsigned_abs s.high.num ≤ WINDOW_SECONDS * s.high.den = let l = is.high.least in let m = is.high.most in omega (arith, ints) in
      let m : unsigned_abs s.high.num * (PULL_STEPS * s.low.den) ≤ (WINDOW_SECONDS * s.high.den) * (PULL_STEPS * s.low.den) = mul-le-mul_right (PULL_STEPS * s.low.den) n in
      omega arith

  pub room_of_time : (d : ℕ) → d ≤ time_step s → TIME_STEPS * d ≤ unit s
  room_of_time d h = omega arith

  pub room_of_pull : (d : ℕ) → d ≤ grain s → PULL_STEPS * d ≤ unit s
  room_of_pull d h = omega arith

  pub room_of_rate : (d : ℕ) → d ≤ rate_step s → RATE_STEPS * d ≤ unit s * unit s
  room_of_rate d h = omega arith

  pub slowest_size : unsigned_abs (over_square s s.area.own.least) ≤ fastest * (unit s * unit s)
  slowest_size = size_over s.area.own.least fastest (unit s * unit s) is.own.least

  pub least_size : unsigned_abs (over_square s s.demand.lo) ≤ fastest * (unit s * unit s)
  least_size = size_over s.demand.lo fastest (unit s * unit s) is.aims.least

  pub greatest_size : unsigned_abs (over_square s s.demand.hi) ≤ fastest * (unit s * unit s)
  greatest_size = size_over s.demand.hi fastest (unit s * unit s) is.aims.greatest

  pub aims_ordered : over_square s s.demand.lo ≤ℤ over_square s s.demand.hi
  aims_ordered = scaled_le s.demand.lo s.demand.hi (unit s * unit s) is.demand.ordered
