-- The vertex nearest to a point of a grid.
use Rattle.std.proofs.Common.{◌≡◌, ℕ, suc, ◌+◌, ◌*◌, ◌<◌, ◌≤◌, ◌⊎◌, inl, inr, ⊎_elim, List, length, ℤ, arith, subst, sym, mul-le-mul, mul-le-mul_right, mul-pos, le_refl}
use native.Mathlib.Nat.{mul-le-mul_left}
use Rattle.std.proofs.lemmas.Bool.{cases_lt}
use Rattle.std.proofs.lemmas.Int.{ints}
use Rattle.acas_spec.specs.Axis.{IsAxis, place_value}
use Rattle.acas_spec.specs.Limits.{IsGrid}
use Rattle.acas_spec.specs.Model.{GridData}
use Rattle.acas_spec.specs.declared.place.Point.{Point}
use Rattle.acas_spec.specs.declared.place.Vertex.{Vertex}
use Rattle.acas_grid.specs.Axis.{IsBetweenEnds}
use Rattle.acas_grid.specs.Grid.{IsInside, vertex_number}
use Rattle.acas_process.specs.Axis.{distance, tent}
use Rattle.acas_process.specs.Step.{share}
use Rattle.acas_process.proofs.AxisLaws.{HasCell, IsBetween, distance-add, has_cell, neighbours, next_above, others}
use Rattle.acas_replay.specs.Flown.{IsNearestPlace}
use Rattle.acas_replay.specs.Issue.{IsNearestVertex}

-- ---- on one axis

-- a number between two neighbours, and the tents there
module _ (axis : List ℤ) (k : ℕ) (x : ℤ) (rises : IsAxis axis) (between : IsBetween axis k x) where
  cell : HasCell axis k x (others axis k)
  cell = has_cell axis k x rises between

  upper_is : tent axis (k + 1) x ≡ others axis k * distance (place_value axis k) x
  upper_is = let e : suc k ≡ k + 1 = omega arith in subst (λ (n : ℕ). tent axis n x ≡ others axis k * distance (place_value axis k) x) e cell.upper

  -- each place is before the two, one of the two, or behind them
  by_place : (P : ℕ → Type 0) → ((i : ℕ) → i < k → P i) → P k → P (k + 1) → ((i : ℕ) → suc k < i → P i) → (i : ℕ) → P i
  by_place P before low high after i =
      ⊎_elim (λ (l : i < k). before i l)
      (λ (l : k ≤ i).
      ⊎_elim
      (λ (n : suc k < i). after i n)
      (λ (n : i ≤ suc k).
      ⊎_elim
      (λ (o : i < k + 1). let e : k ≡ i = omega arith in subst P e low)
      (λ (o : k + 1 ≤ i). let e : k + 1 ≡ i = omega arith in subst P e high)
      (cases_lt i (k + 1)))
      (cases_lt (suc k) i))
      (cases_lt i k)

  -- not both distances are 0
  some_distance : 0 < distance (place_value axis k) x + distance x (place_value axis (k + 1))
  some_distance = omega (arith, ints, distance-add (place_value axis k) x (place_value axis (k + 1)) between.low between.high, next_above axis k rises between.place)

  pub nearest-lower : distance (place_value axis k) x ≤ distance x (place_value axis (k + 1)) → IsNearestPlace axis x k
  nearest-lower h =
      let here = between.place in
      let apart = some_distance in
      let positive : 0 < distance x (place_value axis (k + 1)) = omega arith in
      let some = mul-pos cell.positive positive in
      let wins = mul-le-mul_left (others axis k) h in
      record {
        inside = omega arith;
        some = rw cell.lower some;
        greatest = λ i inside. by_place (λ i. tent axis i x ≤ tent axis k x)
            (λ i l. rw (cell.before i l) (omega arith)) (le_refl (tent axis k x)) (rw (upper_is, cell.lower) wins) (λ i l. rw (cell.after i l) (omega arith)) i;
        first = λ i inside. by_place (λ i. tent axis k x ≤ tent axis i x → k ≤ i)
            (λ i l. rw (cell.before i l, cell.lower) (λ n. absurd (omega arith))) (λ n. le_refl k) (λ n. omega arith) (λ i l n. omega arith) i;
      }

  pub nearest-upper : distance x (place_value axis (k + 1)) < distance (place_value axis k) x → IsNearestPlace axis x (k + 1)
  nearest-upper h =
      let here = between.place in
      let positive : 0 < distance (place_value axis k) x = omega arith in
      let some = mul-pos cell.positive positive in
      let below : others axis k * distance x (place_value axis (k + 1)) < others axis k * distance (place_value axis k) x =
      strictly (others axis k) (distance x (place_value axis (k + 1))) (distance (place_value axis k) x) cell.positive h in
      record {
        inside = here;
        some = rw upper_is some;
        greatest = λ i inside. by_place (λ i. tent axis i x ≤ tent axis (k + 1) x)
            (λ i l. rw (cell.before i l) (omega arith)) (rw (cell.lower, upper_is) (omega arith)) (le_refl (tent axis (k + 1) x)) (λ i l. rw (cell.after i l) (omega arith)) i;
        first = λ i inside. by_place (λ i. tent axis (k + 1) x ≤ tent axis i x → k + 1 ≤ i)
            (λ i l. rw (cell.before i l, upper_is) (λ n. absurd (omega arith))) (rw (cell.lower, upper_is) (λ n. absurd (omega arith))) (λ n. le_refl (k + 1)) (λ i l n. omega arith) i;
      }
    where
      strictly : (n a b : ℕ) → 0 < n → a < b → n * a < n * b
      strictly n a b p h = let m : a + 1 ≤ b = omega arith in let l = mul-le-mul_left n m in omega arith

  -- a place with a tent there is one of the two
  pub tent_some : (i : ℕ) → 0 < tent axis i x → (i ≡ k) ⊎ (i ≡ k + 1)
  tent_some i some =
      by_place (λ i. 0 < tent axis i x → (i ≡ k) ⊎ (i ≡ k + 1))
      (λ i l. rw (cell.before i l) (λ n. absurd (omega arith))) (λ n. inl (omega arith)) (λ n. inr (omega arith)) (λ i l. rw (cell.after i l) (λ n. absurd (omega arith))) i some

-- between the ends of an axis there is one
pub some_nearest_place : (axis : List ℤ) (x : ℤ) → IsAxis axis → IsBetweenEnds axis x → (place : ℕ) × IsNearestPlace axis x place
some_nearest_place axis x rises ends =
    let n = neighbours axis x rises ends in
    ⊎_elim
    (λ (l : distance x (place_value axis (n.place + 1)) < distance (place_value axis n.place) x). (n.place + 1, nearest-upper axis n.place x rises n.holds l))
    (λ (l : distance (place_value axis n.place) x ≤ distance x (place_value axis (n.place + 1))). (n.place, nearest-lower axis n.place x rises n.holds l))
    (cases_lt (distance x (place_value axis (n.place + 1))) (distance (place_value axis n.place) x))

-- ---- on three axes

-- a factor below its greatest would leave the product smaller
factor : (x y z u v w : ℕ) → y ≤ v → z ≤ w → 0 < v → 0 < w → u * v * w ≤ x * y * z → u ≤ x
factor x y z u v w hy hz pv pw h =
    ⊎_elim
    (λ (l : x < u).
    let m : x + 1 ≤ u = omega arith in
    let high = mul-le-mul_right w (mul-le-mul_right v m) in
    let low = mul-le-mul (mul-le-mul (le_refl x) hy) hz in
    let some = mul-pos pv pw in
    absurd (omega arith))
    (λ (l : u ≤ x). l)
    (cases_lt x u)

numbers : (width depth i j k a b c : ℕ) → i ≤ a → j ≤ b → k ≤ c → (i * width + j) * depth + k ≤ (a * width + b) * depth + c
numbers width depth i j k a b c h l m =
    let first = mul-le-mul_right width h in
    let both : i * width + j ≤ a * width + b = omega arith in
    let third = mul-le-mul_right depth both in
    omega arith

-- the nearest places make the nearest vertex
module _ (g : GridData) (s : Point) (y : Vertex) (h : IsNearestPlace g.h s.h y.i) (v0 : IsNearestPlace g.v0 s.v0 y.j) (v1 : IsNearestPlace g.v1 s.v1 y.k) where
  pub nearest_places-share : 0 < share g s y
  nearest_places-share = mul-pos (mul-pos h.some v0.some) v1.some

  pub nearest_places-nearest : IsNearestVertex g s y
  nearest_places-nearest = record {
    vertex = record { i = h.inside; j = v0.inside; k = v1.inside };
    greatest = λ z is. mul-le-mul (mul-le-mul (h.greatest z.i is.i) (v0.greatest z.j is.j)) (v1.greatest z.k is.k);
    least = λ z is e.
        let l : share g s y ≤ share g s z = omega (arith, e) in
        numbers (length g.v0) (length g.v1) y.i y.j y.k z.i z.j z.k
        (h.first z.i is.i (factor (tent g.h z.i s.h) (tent g.v0 z.j s.v0) (tent g.v1 z.k s.v1) (tent g.h y.i s.h) (tent g.v0 y.j s.v0) (tent g.v1 y.k s.v1) (v0.greatest z.j is.j) (v1.greatest z.k is.k) v0.some v1.some l))
        (v0.first z.j is.j (factor (tent g.v0 z.j s.v0) (tent g.h z.i s.h) (tent g.v1 z.k s.v1) (tent g.v0 y.j s.v0) (tent g.h y.i s.h) (tent g.v1 y.k s.v1) (h.greatest z.i is.i) (v1.greatest z.k is.k) h.some v1.some
        (second_first (tent g.h z.i s.h) (tent g.v0 z.j s.v0) (tent g.v1 z.k s.v1) (tent g.h y.i s.h) (tent g.v0 y.j s.v0) (tent g.v1 y.k s.v1) l)))
        (v1.first z.k is.k (factor (tent g.v1 z.k s.v1) (tent g.h z.i s.h) (tent g.v0 z.j s.v0) (tent g.v1 y.k s.v1) (tent g.h y.i s.h) (tent g.v0 y.j s.v0) (h.greatest z.i is.i) (v0.greatest z.j is.j) h.some v0.some
        (third_first (tent g.h z.i s.h) (tent g.v0 z.j s.v0) (tent g.v1 z.k s.v1) (tent g.h y.i s.h) (tent g.v0 y.j s.v0) (tent g.v1 y.k s.v1) l)));
  }
    where
      second_first : (x y z u v w : ℕ) → u * v * w ≤ x * y * z → v * u * w ≤ y * x * z
      second_first x y z u v w e = omega arith

      third_first : (x y z u v w : ℕ) → u * v * w ≤ x * y * z → w * u * v ≤ z * x * y
      third_first x y z u v w e = omega arith

-- each point of a grid has a nearest vertex, with a share
pub record HasNearest (g : GridData) (s : Point) : Type 0 where
  pub vertex : Vertex
  pub is_nearest : IsNearestVertex g s vertex
  pub some : 0 < share g s vertex

pub some_nearest : (g : GridData) (s : Point) → IsGrid g → IsInside g s → HasNearest g s
some_nearest g s is inside =
    let h = some_nearest_place g.h s.h is.altitudes inside.h in
    let v0 = some_nearest_place g.v0 s.v0 is.own_rates inside.v0 in
    let v1 = some_nearest_place g.v1 s.v1 is.intruder_rates inside.v1 in
    let y : Vertex = record { i = h.0; j = v0.0; k = v1.0 } in
    record { vertex = y; is_nearest = nearest_places-nearest g s y h.1 v0.1 v1.1; some = nearest_places-share g s y h.1 v0.1 v1.1 }

-- ---- one alone

pub nearest_same : (g : GridData) (s : Point) (y z : Vertex) → IsNearestVertex g s y → IsNearestVertex g s z → vertex_number g y ≡ vertex_number g z
nearest_same g s y z h k =
    let up = h.greatest z k.vertex in
    let down = k.greatest y h.vertex in
    let same : share g s z ≡ share g s y = omega arith in
    let first = h.least z k.vertex same in
    let last = k.least y h.vertex (sym same) in
    omega arith
