-- The two curves of an intruder: those of the pilot who flies as it does.
use Rattle.std.proofs.Common.{◌≡◌, ℕ, ◌<◌, refl, ap₂, ◌∙◌, arith, cond, Bool, true, false, List, ℤ, pos, neg_ℤ, ◌*ℤ◌, ◌≤ℤ◌, int_lt}
use Rattle.std.proofs.lemmas.Int.{ints}
use lib.IntN.{*ℤ_comm}
use Rattle.acas_frac.proofs.SignedProducts.{le-from_mul_ℤ}
use Rattle.acas_flight.proofs.Holding.{held-none, meets_above}
use Rattle.acas_flight_lemmas.proofs.Rising.{lowest_rises}
use Rattle.acas_flight_lemmas.proofs.Mirror.{meets_under}
use Rattle.acas_flight.specs.Response.{Segment, Demand, climb, lasting}
use Rattle.acas_flight.specs.Parts.{CanBeMet}
use Rattle.acas_flight.specs.Curves.{approach, held, lowest, highest}
use Rattle.acas_rulings.specs.Intruder.{Manoeuvre, IsFlown, pilot_of}
use Rattle.acas_manoeuvre_lemmas.proofs.Flown.{flown-meets}

-- pulls and holds of that pilot do not depend on the rate
same_pull : (t : Bool) (b : ℕ) → cond t b b ≡ b
same_pull true b = refl
same_pull false b = refl

abbrev none : ℕ
none = 0

no_hold : (t : Bool) → cond t none none ≡ none
no_hold true = refl
no_hold false = refl

pub lowest-pilot : (may : Manoeuvre) (v : ℤ) (t : ℕ) → lowest (pilot_of may) v t ≡ approach v (neg_ℤ (pos may.rate)) may.accel t
lowest-pilot may v t =
    ap₂ (λ (b g : ℕ). held v (neg_ℤ (pos may.rate)) b g t) (same_pull (int_lt v (neg_ℤ (pos may.rate))) may.accel) (no_hold (int_lt v (neg_ℤ (pos may.rate))))
    ∙ held-none v (neg_ℤ (pos may.rate)) may.accel t

pub highest-pilot : (may : Manoeuvre) (v : ℤ) (t : ℕ) → highest (pilot_of may) v t ≡ approach v (pos may.rate) may.accel t
highest-pilot may v t =
    ap₂ (λ (b g : ℕ). held v (pos may.rate) b g t) (same_pull (int_lt (pos may.rate) v) may.accel) (no_hold (int_lt (pos may.rate) v))
    ∙ held-none v (pos may.rate) may.accel t

pub pilot-can : (may : Manoeuvre) → 0 < may.accel → CanBeMet (pilot_of may)
pilot-can may p = record { ordered = omega (arith, ints); some_pull = p; pull_within = omega arith }

pub flown-above : (may : Manoeuvre) (v : ℤ) (r : List Segment) → 0 < may.accel → IsFlown may v r →
    approach v (neg_ℤ (pos may.rate)) may.accel (lasting r) ≤ℤ (climb v r *ℤ pos may.accel)
flown-above may v r p f =
    let low = meets_above (pilot_of may) (pilot-can may p) v r (flown-meets may v r f) in
    rw (lowest-pilot may v (lasting r), same_pull (int_lt v (neg_ℤ (pos may.rate))) may.accel) at low

pub flown-under : (may : Manoeuvre) (v : ℤ) (r : List Segment) → 0 < may.accel → IsFlown may v r →
    (climb v r *ℤ pos may.accel) ≤ℤ approach v (pos may.rate) may.accel (lasting r)
flown-under may v r p f =
    let high = meets_under (pilot_of may) (pilot-can may p) v r (flown-meets may v r f) in
    rw (highest-pilot may v (lasting r), same_pull (int_lt (pos may.rate) v) may.accel) at high

-- ---- an approach from a higher rate is at least as high

-- the demand of one aim and one acceleration
abbrev one_aim : ℤ → ℕ → Demand
one_aim c b = record { lo = c; hi = c; pull = b; limit = b; delay = 0 }

lowest-one : (c : ℤ) (b : ℕ) (v : ℤ) (t : ℕ) → lowest (one_aim c b) v t ≡ approach v c b t
lowest-one c b v t = ap₂ (λ (p g : ℕ). held v c p g t) (same_pull (int_lt v c) b) (no_hold (int_lt v c)) ∙ held-none v c b t

pub approach-rises : (c : ℤ) (b : ℕ) → 0 < b → (v w : ℤ) (t : ℕ) → v ≤ℤ w → approach v c b t ≤ℤ approach w c b t
approach-rises c b p v w t h =
    let both = rw (lowest-one c b v t, lowest-one c b w t, same_pull (int_lt v c) b, same_pull (int_lt w c) b, *ℤ_comm (approach v c b t) (pos b), *ℤ_comm (approach w c b t) (pos b)) at (lowest_rises (one_aim c b) v w t h) in
    le-from_mul_ℤ b (approach v c b t) (approach w c b t) p both
