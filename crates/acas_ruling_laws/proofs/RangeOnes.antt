-- A time has one range and one closing speed of a cell or a box, in lowest terms.
use Rattle.std.proofs.Common.{◌≡◌, ℕ, ◌<◌, ◌≤◌, ⊎_elim, sym, ◌∙◌, arith, ℤ, pos, ◌-ℤ◌, ◌*ℤ◌, ◌≤ℤ◌, ◌<ℤ◌}
use Rattle.std.proofs.lemmas.Int.{ints}
use Rattle.std.proofs.lemmas.Bool.{cases_lt}
use Rattle.acas_spec.specs.Model.{ModelData}
use Rattle.acas_frac.proofs.SignedProducts.{mul-lt_ℤ, mul_comm_ℤ}
use Rattle.acas_frac.specs.Fraction.{Fraction, IsReduced}
use Rattle.acas_frac.proofs.Reduced.{over-IsReduced-same}
use Rattle.acas_flight.specs.State.{Interval}
use Rattle.acas_flight.specs.Values.{IsOver}
use Rattle.acas_frac.proofs.Orders.{cases_lt_ℤ, mul_nonneg}
use Rattle.acas_rulings.specs.Ranges.{IsBoxesRange, IsCellsRange, cell_range, nearest_range}

pub cells_range-one : (m : ModelData) (n : ℕ) (time r s v w : Fraction) (q t : ℕ) → 0 < q → IsOver q (pos t) time → IsCellsRange m n time r v → IsCellsRange m n time s w →
    IsReduced r → IsReduced s → (r ≡ s) × (v ≡ w)
cells_range-one m n time r s v w q t p o i j a b =
    (over-IsReduced-same q (pos (cell_range m n q t)) r s p a b (i.over q t p o) (j.over q t p o), i.slowest ∙ sym j.slowest)

-- a speed flies some way in some time
flown_some : (z x : ℤ) (d t : ℕ) → 0 < d → z *ℤ pos t ≡ x *ℤ pos d → pos 0 <ℤ x → 0 < t
flown_some z x d t p e h = ⊎_elim (λ (l : 0 < t). l) (λ (l : t ≤ 0). let n : t ≡ 0 = omega arith in let f = rw n at e in absurd (none f (mul-lt_ℤ d (pos 0) x p h))) (cases_lt 0 t)
  where
    none : z *ℤ pos 0 ≡ x *ℤ pos d → (pos d *ℤ pos 0) <ℤ (pos d *ℤ x) → ⊥
    none f l = omega (arith, ints, mul_comm_ℤ x (pos d))

above_none : (s x : ℤ) (t : ℕ) → pos 0 ≤ℤ s → (s *ℤ pos t) <ℤ x → pos 0 <ℤ x
above_none s x t h l = let m = mul_nonneg s (pos t) h (omega (arith, ints)) in omega (arith, ints, m)

pub boxes_range-one : (radius : ℕ) (ranges speeds : Interval) (time r s v w : Fraction) (q t : ℕ) → pos 0 ≤ℤ speeds.least → 0 < q → IsOver q (pos t) time →
    IsBoxesRange radius ranges speeds time r v → IsBoxesRange radius ranges speeds time s w → IsReduced r → IsReduced s → IsReduced v → IsReduced w → (r ≡ s) × (v ≡ w)
boxes_range-one radius ranges speeds time r s v w q t ahead p o i j a b c d =
    ⊎_elim
    (λ l. let x = i.faster q t p o l in let y = j.faster q t p o l in
    let some = flown_some v.num ((ranges.least -ℤ pos radius) *ℤ pos q) v.den t c.some x.0 (above_none speeds.least ((ranges.least -ℤ pos radius) *ℤ pos q) t ahead l) in
    (x.1 ∙ sym y.1, over-IsReduced-same t ((ranges.least -ℤ pos radius) *ℤ pos q) v w some c d (sym x.0) (sym y.0)))
    (λ l. let x = i.slowest q t p o l in let y = j.slowest q t p o l in
    (over-IsReduced-same q (nearest_range q ranges (speeds.least *ℤ pos t)) r s p a b x.1 y.1, x.0 ∙ sym y.0))
    (cases_lt_ℤ (speeds.least *ℤ pos t) ((ranges.least -ℤ pos radius) *ℤ pos q))
