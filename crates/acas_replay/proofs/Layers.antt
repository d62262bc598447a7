-- The layer of a state, and the seconds after which its range is near.
use Rattle.std.proofs.Common.{◌≡◌, ℕ, zero, suc, ◌+◌, ◌*◌, ◌<◌, ◌≤◌, ⊎_elim, arith, ℤ, pos, ◌-ℤ◌, ◌*ℤ◌, ◌≤ℤ◌, ◌<ℤ◌, unsigned_abs}
use Rattle.std.specs.Int.{div_ceil, int_max}
use Rattle.std.proofs.lemmas.Grind.{div_ceil_times}
use Rattle.std.proofs.lemmas.Int.{ints, clamps}
use Rattle.std.proofs.lemmas.Bool.{cases_lt}
use native.Mathlib.Nat.{mul-le-mul_right}
use Rattle.acas_spec.specs.Model.{ModelData}
use Rattle.acas_frac.proofs.Orders.{cases_lt_ℤ, mul_nonneg}
use Rattle.acas_flight.specs.State.{outside_radius}
use Rattle.acas_replay.specs.Issue.{IsLayerOf}
use Rattle.acas_replay.specs.declared.state.EncounterState.{EncounterState}

-- ---- which it is

-- the first, where the range is near after one second
pub first_layer : (m : ModelData) (s : EncounterState) → (s.range -ℤ pos m.radius) ≤ℤ s.closing → IsLayerOf m s 1
first_layer m s h = record { some = omega arith; near = omega (arith, ints); least = λ other some near. some }

-- a quotient that is less than another number's
quotient_below : (w c q k : ℕ) → q * c < w + c → w ≤ k * c → q ≤ k
quotient_below w c q k h l =
    ⊎_elim
    (λ (n : k < q). let m : k + 1 ≤ q = omega arith in let r = mul-le-mul_right c m in absurd (omega arith))
    (λ (n : q ≤ k). n)
    (cases_lt k q)

quotient_some : (w c q : ℕ) → c < w → w ≤ q * c → 1 ≤ q
quotient_some w c zero h l = absurd (omega arith)
quotient_some w c (suc q) h l = omega arith

-- and else the quotient of what is left and the closing speed, rounded up
quotient_layer : (m : ModelData) (s : EncounterState) (w c : ℕ) → s.range -ℤ pos m.radius ≡ pos w → s.closing ≡ pos c → 0 < c → c < w → IsLayerOf m s (div_ceil w c)
quotient_layer m s w c e f some l =
    let q = div_ceil_times w c some in
    record {
      some = quotient_some w c (div_ceil w c) l q.0;
      near = rw (e, f) (up w (div_ceil w c * c) q.0);
      least = λ other some_other near. quotient_below w c (div_ceil w c) other q.1 (down w (other * c) (rw (e, f) at near));
    }
  where
    up : (m n : ℕ) → m ≤ n → pos m ≤ℤ pos n
    up m n h = omega (arith, ints)

    down : (m n : ℕ) → pos m ≤ℤ pos n → m ≤ n
    down m n h = omega (arith, ints)

pub far_layer : (m : ModelData) (s : EncounterState) → pos 0 <ℤ s.closing → s.closing <ℤ (s.range -ℤ pos m.radius) → IsLayerOf m s (div_ceil (unsigned_abs (s.range -ℤ pos m.radius)) (unsigned_abs s.closing))
far_layer m s some far = quotient_layer m s (unsigned_abs (s.range -ℤ pos m.radius)) (unsigned_abs s.closing) (omega (arith, ints)) (omega (arith, ints)) (omega (arith, ints)) (omega (arith, ints))

-- each state whose range closes has one
pub some_layer : (m : ModelData) (s : EncounterState) → pos 0 <ℤ s.closing → (layer : ℕ) × IsLayerOf m s layer
some_layer m s some =
    ⊎_elim
    (λ (l : s.closing <ℤ (s.range -ℤ pos m.radius)). (div_ceil (unsigned_abs (s.range -ℤ pos m.radius)) (unsigned_abs s.closing), far_layer m s some l))
    (λ (l : (s.range -ℤ pos m.radius) ≤ℤ s.closing). (1, first_layer m s l))
    (cases_lt_ℤ s.closing (s.range -ℤ pos m.radius))

-- and no other
pub layers_same : (m : ModelData) (s : EncounterState) (k l : ℕ) → IsLayerOf m s k → IsLayerOf m s l → k ≡ l
layers_same m s k l h j = let a = h.least l j.some j.near in let b = j.least k h.some h.near in omega arith

-- ---- how many seconds away a state is

max_above : (x : ℤ) → x ≤ℤ int_max (pos 0) x
max_above x = omega (arith, ints, clamps)

max_nonneg : (x : ℤ) → pos 0 ≤ℤ int_max (pos 0) x
max_nonneg x = omega (arith, ints, clamps)

max_least : (x y : ℤ) → x ≤ℤ y → pos 0 ≤ℤ y → int_max (pos 0) x ≤ℤ y
max_least x y h k = omega (arith, ints, clamps)

plain_radius : (radius : ℕ) (range : ℤ) → range -ℤ pos (radius * 1) ≡ range -ℤ pos radius
plain_radius radius range = omega (arith, ints)

pub layer_not_after : (m : ModelData) (s : EncounterState) (n : ℕ) → pos 0 <ℤ s.closing → IsLayerOf m s (n + 1) → outside_radius m.radius 1 s.range ≤ℤ (pos (n + 1) *ℤ s.closing)
layer_not_after m s n some l =
    rw (plain_radius m.radius s.range)
    (max_least (s.range -ℤ pos m.radius) (pos (n + 1) *ℤ s.closing) l.near (mul_nonneg (pos (n + 1)) s.closing (omega (arith, ints)) (omega (arith, ints))))

pub layer_not_before : (m : ModelData) (s : EncounterState) (n : ℕ) → IsLayerOf m s (n + 1) → (pos n *ℤ s.closing) ≤ℤ outside_radius m.radius 1 s.range
layer_not_before m s zero l = let e : pos 0 *ℤ s.closing ≡ pos 0 = omega (arith, ints) in rw (plain_radius m.radius s.range, e) (max_nonneg (s.range -ℤ pos m.radius))
layer_not_before m s (suc k) l =
    rw (plain_radius m.radius s.range)
    (⊎_elim
    (λ (h : (pos (suc k) *ℤ s.closing) <ℤ (s.range -ℤ pos m.radius)). let n = max_above (s.range -ℤ pos m.radius) in omega (arith, ints))
    (λ (h : (s.range -ℤ pos m.radius) ≤ℤ (pos (suc k) *ℤ s.closing)). let n = l.least (suc k) (omega arith) h in absurd (omega arith))
    (cases_lt_ℤ (pos (suc k) *ℤ s.closing) (s.range -ℤ pos m.radius)))
