-- The range of a cell's witness is in horizontal contact.
use Rattle.std.proofs.Common.{unsigned_abs, arith, ◌≡◌, ℕ, ◌+◌, ◌-◌, ◌*◌, ◌<◌, ◌≤◌, ◌⊎◌, inl, inr, ⊎_elim, refl, ap, ap₂, sym, ◌∙◌, [], ◌∷◌, ℤ, pos, ◌*ℤ◌, min, mul-le-mul_left, mul-le-mul_right}
use Rattle.std.proofs.lemmas.Bool.{cases_lt}
use lib.IntN.{*ℤ_comm}
use Rattle.acas_frac.proofs.IntRing.{at, num, ◌⊕◌, ◌⊗◌, ring, mul_swapped_ℤ}
use Rattle.acas_flight_lemmas.proofs.Scales.{cancel_left, pos_inj}
use Rattle.acas_flight_lemmas.proofs.Held.{min_scaled}
use Rattle.acas_frac.specs.Fraction.{Fraction, whole_of}
use Rattle.acas_flight.specs.Values.{IsOver}
use Rattle.acas_spec.specs.Model.{ModelData}
use Rattle.acas_flight_windows.proofs.Windows.{Near, IsTimeOfCell, IsHorizontalContact-of, window_of_cell, Away, IsSecondsAway-of}
use Rattle.acas_flight.specs.State.{IsSecondsAway}
use Rattle.acas_flight.specs.Contact.{IsHorizontalContact}
use Rattle.acas_flight.specs.Window.{IsContactTimeOfCell}
use Rattle.acas_rulings.specs.Ranges.{IsCellsRange, IsContactOfCell}
use Rattle.acas_rulings.specs.Ranges as ranges
use native.Mathlib.Nat.{le_of_mul-le-mul_left}

-- a time's number over q, as natural numbers
pub numbers : (f : Fraction) (a d q t : ℕ) → f.num ≡ pos a → f.den ≡ d → IsOver q (pos t) f → t * d ≡ a * q
numbers f a d q t ea ed o = pos_inj (t * d) (a * q) (rw (ea, ed) at o)

pub window_over : (radius slow n d a q t : ℕ) → 0 < d → t * d ≡ a * q → IsTimeOfCell radius slow n d a → IsTimeOfCell radius slow n q t
window_over radius slow n d a q t p e w = (
  le_of_mul-le-mul_left {m = n * q} {n = t} {k = d} (let m = mul-le-mul_right q w.0 in omega arith) p,
  le_of_mul-le-mul_left {m = slow * t} {n = slow * ((n + 1) * q) + 2 * radius * q} {k = d} (let m = mul-le-mul_right q w.1 in let s = ap (λ z. slow * z) e in omega arith) p,
)

-- what a range over d is over q: m is the lesser of the two times over d, and k that over q
range_over : (r : Fraction) (radius slow d q m k : ℕ) → 0 < d → k * d ≡ m * q → r.num *ℤ pos d ≡ pos (radius * d + slow * m) *ℤ pos r.den → IsOver q (pos (radius * q + slow * k)) r
range_over r radius slow d q m k p e h =
    cancel_left d (pos ((radius * q + slow * k) * r.den)) (r.num *ℤ pos q) p
    (one radius slow d q k r.den ∙ ap (λ z. pos ((radius * d * q + slow * z) * r.den)) e ∙ two radius slow d q m r.den ∙ ap (λ z. z *ℤ pos q) (sym h) ∙ mul_swapped_ℤ r.num (pos d) (pos q))
  where
    one : (radius slow d q k n : ℕ) → pos d *ℤ pos ((radius * q + slow * k) * n) ≡ pos ((radius * d * q + slow * (k * d)) * n)
    one radius slow d q k n = ring (pos radius ∷ pos slow ∷ pos d ∷ pos q ∷ pos k ∷ pos n ∷ []) (at 2 ⊗ (((at 0 ⊗ at 3) ⊕ (at 1 ⊗ at 4)) ⊗ at 5)) ((((at 0 ⊗ at 2) ⊗ at 3) ⊕ (at 1 ⊗ (at 4 ⊗ at 2))) ⊗ at 5) refl

    two : (radius slow d q m n : ℕ) → pos ((radius * d * q + slow * (m * q)) * n) ≡ (pos (radius * d + slow * m) *ℤ pos n) *ℤ pos q
    two radius slow d q m n = ring (pos radius ∷ pos slow ∷ pos d ∷ pos q ∷ pos m ∷ pos n ∷ []) ((((at 0 ⊗ at 2) ⊗ at 3) ⊕ (at 1 ⊗ (at 4 ⊗ at 3))) ⊗ at 5) ((((at 0 ⊗ at 2) ⊕ (at 1 ⊗ at 4)) ⊗ at 5) ⊗ at 3) refl

lesser : (t n q d a : ℕ) → t * d ≡ a * q → min t (n * q) * d ≡ min a (n * d) * q
lesser t n q d a e =
    let l = min_scaled t (n * q) d in
    let r = min_scaled a (n * d) q in
    let s : (n * q) * d ≡ (n * d) * q = omega arith in
    sym l ∙ ap₂ (λ (x y : ℕ). min x y) e s ∙ r

range_of_cell : (r f : Fraction) (radius slow n a d q t : ℕ) → f.num ≡ pos a → f.den ≡ d → 0 < d → IsOver q (pos t) f → r.num *ℤ pos d ≡ pos (radius * d + slow * min a (n * d)) *ℤ pos r.den →
    IsOver q (pos (radius * q + slow * min t (n * q))) r
range_of_cell r f radius slow n a d q t ea ed p o h = range_over r radius slow d q (min a (n * d)) (min t (n * q)) p (lesser t n q d a (numbers f a d q t ea ed o)) h

in_range : (radius slow fast n q t m : ℕ) → slow ≤ fast → n * q ≤ m → m ≤ (n + 1) * q → Away radius slow fast n q (radius * q + slow * m) (slow * q)
in_range radius slow fast n q t m h k l =
    let less : (radius * q + slow * m) - radius * q ≡ slow * m = omega arith in
    record {
      at_least = omega arith;
      at_most = mul-le-mul_right q h;
      after = rw less (let s = mul-le-mul_left slow k in omega arith);
      before = rw less (let s = mul-le-mul_left slow l in omega arith);
    }

near : (radius slow q t m n : ℕ) → m ≤ t → (m ≡ t) ⊎ (m ≡ (n + 1) * q) → slow * t ≤ slow * ((n + 1) * q) + 2 * radius * q → Near radius q (radius * q + slow * m) (slow * q) t
near radius slow q t m n h c w = record {
  not_far = (let s = mul-le-mul_left (slow * q) h in omega arith);
  not_past = ⊎_elim (λ e. rw e (omega arith)) (λ e. rw e (let s = mul-le-mul_right q w in omega arith)) c;
}

cell_in : (f : Fraction) (radius slow fast n a d q t : ℕ) → f.num ≡ pos a → f.den ≡ d → 0 < d → slow ≤ fast → IsOver q (pos t) f → IsTimeOfCell radius slow n d a → Away radius slow fast n q (radius * q + slow * min t ((n + 1) * q)) (slow * q)
cell_in f radius slow fast n a d q t ea ed p h o w =
    let v = window_over radius slow n d a q t p (numbers f a d q t ea ed o) w in
    in_range radius slow fast n q t (min t ((n + 1) * q)) h (let l = v.0 in let m : n * q ≤ (n + 1) * q = omega arith in omega arith) (omega arith)

cell_near : (f : Fraction) (radius slow n a d q t : ℕ) → f.num ≡ pos a → f.den ≡ d → 0 < d → IsOver q (pos t) f → IsTimeOfCell radius slow n d a → Near radius q (radius * q + slow * min t ((n + 1) * q)) (slow * q) t
cell_near f radius slow n a d q t ea ed p o w =
    let v = window_over radius slow n d a q t p (numbers f a d q t ea ed o) w in
    near radius slow q t (min t ((n + 1) * q)) n (omega arith) (⊎_elim (λ (l : t < (n + 1) * q). inl (omega arith)) (λ (l : (n + 1) * q ≤ t). inr (omega arith)) (cases_lt t ((n + 1) * q))) v.1

-- ---- over each denominator

-- what a fraction is over q is one number
pub same_over : (q : ℕ) (i j : ℤ) (f : Fraction) → 0 < f.den → IsOver q i f → IsOver q j f → i ≡ j
same_over q i j f p a b = cancel_left f.den i j p (*ℤ_comm (pos f.den) i ∙ a ∙ sym b ∙ *ℤ_comm j (pos f.den))

pub whole_over : (q n : ℕ) (f : Fraction) → f ≡ whole_of (pos n) → IsOver q (pos (n * q)) f
whole_over q n f e = rw e (ring (pos n ∷ pos q ∷ []) ((at 0 ⊗ at 1) ⊗ num (pos 1)) (at 0 ⊗ at 1) refl)

pub whole_some : (z : ℤ) (f : Fraction) → f ≡ whole_of z → 0 < f.den
whole_some z f e = rw e (omega arith)

-- the time's parts
during : (m : ModelData) (n d d' a : ℕ) (z : ℤ) → z ≡ pos a → d' ≡ d → IsContactTimeOfCell m n d' (unsigned_abs z) → IsContactTimeOfCell m n d a
during m n d d' a z ea ed w = rw (ea, ed) at w

module _ (m : ModelData) (n : ℕ) (f r v : Fraction) (a d : ℕ) (some : 0 < m.least_closing) (order : m.least_closing ≤ m.greatest_closing)
    (ea : f.num ≡ pos a) (ed : f.den ≡ d) (p : 0 < d) (time : IsContactTimeOfCell m n f.den (unsigned_abs f.num))
    (pr : 0 < r.den) (hr : r.num *ℤ pos d ≡ pos (m.radius * d + m.least_closing * min a ((n + 1) * d)) *ℤ pos r.den) (hv : v ≡ whole_of (pos m.least_closing)) where
  window : IsTimeOfCell m.radius m.least_closing n d a
  window = (window_of_cell m n d a p some order).1 (during m n d f.den a f.num ea ed time)

  pub cells_range : IsCellsRange m n f r v
  cells_range = record {
    slowest = hv;
    over = λ q t s o. range_of_cell r f m.radius m.least_closing (n + 1) a d q t ea ed p o hr;
  }

  pub contact_of_cell : IsContactOfCell m n f r v
  contact_of_cell = record {
    away = λ q t x y s o ox oy. numbers_of q t x y ox oy (range_of_cell r f m.radius m.least_closing (n + 1) a d q t ea ed p o hr) (λ x y. IsSecondsAway m n q x y)
        (IsSecondsAway-of m n q (ranges.cell_range m n q t) (m.least_closing * q) (cell_in f m.radius m.least_closing m.greatest_closing n a d q t ea ed p order o window));
    contact = λ q t x y s o ox oy. numbers_of q t x y ox oy (range_of_cell r f m.radius m.least_closing (n + 1) a d q t ea ed p o hr) (λ x y. IsHorizontalContact m.radius q x y t)
        (IsHorizontalContact-of m.radius q (ranges.cell_range m n q t) (m.least_closing * q) t (cell_near f m.radius m.least_closing n a d q t ea ed p o window));
  }
    where
      numbers_of : (q t : ℕ) (x y : ℤ) → IsOver q x r → IsOver q y v → IsOver q (pos (ranges.cell_range m n q t)) r → (P : ℤ → ℤ → Type 0) →
          P (pos (ranges.cell_range m n q t)) (pos (m.least_closing * q)) → P x y
      numbers_of q t x y ox oy o P h =
          rw (same_over q x (pos (ranges.cell_range m n q t)) r pr ox o, same_over q y (pos (m.least_closing * q)) v (whole_some (pos m.least_closing) v hv) oy (whole_over q m.least_closing v hv)) h
