-- The two curves that bound the climb of every flight that meets an advisory. A curve is kept times its pull: over q, a climb
-- times a pull is over q^4.
use Rattle.std.specs.Prelude.{ℕ, ◌-◌, ◌*◌, min, ℤ, pos, ◌+ℤ◌, ◌-ℤ◌, ◌*ℤ◌, int_lt, int_le, if◌then◌else◌}
use Rattle.acas_flight.specs.Response.{Demand}

-- b times the climb in the time t of a rate that rises from v with the acceleration b until it is k, and then stays
abbrev pub rising_climb : ℤ → ℤ → ℕ → ℕ → ℤ
rising_climb v k b t =
    if int_le (v +ℤ pos (b * t)) k
    then (pos 2 *ℤ v *ℤ pos t +ℤ pos (b * t * t)) *ℤ pos b
    else pos 2 *ℤ k *ℤ pos t *ℤ pos b -ℤ (k -ℤ v) *ℤ (k -ℤ v)

-- the same of a rate that falls
abbrev pub falling_climb : ℤ → ℤ → ℕ → ℕ → ℤ
falling_climb v k b t =
    if int_le k (v -ℤ pos (b * t))
    then (pos 2 *ℤ v *ℤ pos t -ℤ pos (b * t * t)) *ℤ pos b
    else pos 2 *ℤ k *ℤ pos t *ℤ pos b +ℤ (k -ℤ v) *ℤ (k -ℤ v)

-- an approach goes from the rate v to the aim k
unfoldable pub approach : ℤ → ℤ → ℕ → ℕ → ℤ
approach v k b t = if int_le v k then rising_climb v k b t else falling_climb v k b t

-- the same of an approach before which the rate is held for the time g
abbrev pub held : ℤ → ℤ → ℕ → ℕ → ℕ → ℤ
held v k b g t = pos 2 *ℤ v *ℤ pos (min t g) *ℤ pos b +ℤ approach v k b (t - g)

-- with what acceleration the lowest flight from the rate v approaches lo
abbrev pub low_pull : Demand → ℤ → ℕ
low_pull a v = if int_lt v a.lo then a.pull else a.limit

-- and after what hold
abbrev pub low_hold : Demand → ℤ → ℕ
low_hold a v = if int_lt v a.lo then a.delay else 0

-- with what acceleration the highest flight from the rate v approaches hi
abbrev pub high_pull : Demand → ℤ → ℕ
high_pull a v = if int_lt a.hi v then a.pull else a.limit

-- and after what hold
abbrev pub high_hold : Demand → ℤ → ℕ
high_hold a v = if int_lt a.hi v then a.delay else 0

-- the least climb of a flight from the rate v in the time t, times low_pull
abbrev pub lowest : Demand → ℤ → ℕ → ℤ
lowest a v t = held v a.lo (low_pull a v) (low_hold a v) t

-- the greatest climb, times high_pull
abbrev pub highest : Demand → ℤ → ℕ → ℤ
highest a v t = held v a.hi (high_pull a v) (high_hold a v) t
