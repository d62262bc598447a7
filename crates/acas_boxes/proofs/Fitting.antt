-- The test of rates, and the first box that fails it.
use Rattle.std.proofs.Common.{◌≡◌, ℕ, ◌<◌, ◌≤◌, nat_le, nat_lt, cond, not, Bool, true, false, List, length, unsigned_abs, Option, Some, None, Result, Ok, Err, ◌⊎◌, inl, inr, refl, sym, ap, ◌∙◌, subst, arith, position}
use Rattle.std.proofs.lemmas.Bool.{and_parts, le-leb, le-ltb, leb-true, lt-ltb, ltb-false, ltb-true}
use Rattle.std.proofs.lemmas.List.Sums.{prefix_len_is, prefix_len_passes, prefix_len_stops}
use Rattle.std.specs.List.{position_or_len}
use Rattle.acas_spec.specs.Model.{ModelData}
use Rattle.acas_spec.specs.Steps.{◌>>=◌, ◌>>◌}
use Rattle.acas_flight.specs.State.{Interval}
use Rattle.acas_rulings.specs.Intruder.{Manoeuvre, RatesFit}
use Rattle.acas_doc.specs.declared.input_fault.InputFault.{InputFault}
use Rattle.acas_doc.specs.declared.input_fault.InputFault.TheVariants.{Rate}
use Rattle.acas_rulings.specs.Boxes.{AuditedBox, box_at, no_box}
use Rattle.acas_boxes.specs.Rates.{AllRatesFit, IsFirstUnfit, are_within, fitting_boxes_of, or_rate, rates_in}
use Rattle.acas_boxes.specs.Whole.{boxes_of}

-- ---- one box

pub within_fits : (may : Manoeuvre) (rates : Interval) → are_within may rates ≡ true → RatesFit may rates
within_fits may rates e =
    let both = and_parts (nat_le (unsigned_abs rates.least) may.rate) (nat_le (unsigned_abs rates.greatest) may.rate) e in
    record { least = leb-true (unsigned_abs rates.least) may.rate both.0; greatest = leb-true (unsigned_abs rates.greatest) may.rate both.1 }

pub fits_within : (may : Manoeuvre) (rates : Interval) → RatesFit may rates → are_within may rates ≡ true
fits_within may rates fits = rw (le-leb (unsigned_abs rates.least) may.rate fits.least, le-leb (unsigned_abs rates.greatest) may.rate fits.greatest) refl

pub outside_unfit : (may : Manoeuvre) (rates : Interval) → are_within may rates ≡ false → ¬ RatesFit may rates
outside_unfit may rates e fits = let both : true ≡ false = sym (fits_within may rates fits) ∙ e in cc

unfit_outside : (may : Manoeuvre) (rates : Interval) (b : Bool) → are_within may rates ≡ b → ¬ RatesFit may rates → b ≡ false
unfit_outside may rates true e unfit = absurd (unfit (within_fits may rates e))
unfit_outside may rates false e unfit = refl

twice : (b : Bool) → not (not b) ≡ b
twice true = refl
twice false = refl

-- ---- all boxes

-- how many boxes fit before the first that does not
abbrev fit_first : Manoeuvre → List AuditedBox → ℕ
fit_first may boxes = position_or_len (λ (b : AuditedBox). not (are_within may b.states.intruder)) boxes

fit_first_is : (may : Manoeuvre) (boxes : List AuditedBox) (n : ℕ) → n ≤ length boxes → ((k : ℕ) → k < n → RatesFit may (box_at boxes k).states.intruder)
    → (n < length boxes → ¬ RatesFit may (box_at boxes n).states.intruder) → fit_first may boxes ≡ n
fit_first_is may boxes n le fit unfit =
    prefix_len_is (λ (b : AuditedBox). not (not (are_within may b.states.intruder))) boxes n no_box le
    (λ k h. ap (λ b. not (not b)) (fits_within may (box_at boxes k).states.intruder (fit k h)))
    (λ l. ap (λ b. not (not b)) (unfit_outside may (box_at boxes n).states.intruder (are_within may (box_at boxes n).states.intruder) refl (unfit l)))

fit_before : (may : Manoeuvre) (boxes : List AuditedBox) (k : ℕ) → k < fit_first may boxes → RatesFit may (box_at boxes k).states.intruder
fit_before may boxes k l =
    within_fits may (box_at boxes k).states.intruder
    (sym (twice (are_within may (box_at boxes k).states.intruder)) ∙ prefix_len_passes (λ (b : AuditedBox). not (not (are_within may b.states.intruder))) boxes k no_box l)

unfit_there : (may : Manoeuvre) (boxes : List AuditedBox) → fit_first may boxes < length boxes → ¬ RatesFit may (box_at boxes (fit_first may boxes)).states.intruder
unfit_there may boxes l =
    outside_unfit may (box_at boxes (fit_first may boxes)).states.intruder
    (sym (twice (are_within may (box_at boxes (fit_first may boxes)).states.intruder)) ∙ prefix_len_stops (λ (b : AuditedBox). not (not (are_within may b.states.intruder))) boxes no_box l)

-- ---- all fit, or the first that does not

pub all_fit : (may : Manoeuvre) (boxes : List AuditedBox) → AllRatesFit may boxes → rates_in may boxes ≡ Ok tt
unfolding rates_in
all_fit may boxes all =
    let whole = fit_first_is may boxes (length boxes) (omega arith) all.each (λ l. absurd (omega (arith, l))) in
    rw (whole, le-ltb (length boxes) (length boxes) (omega arith)) refl

pub first_unfit : (may : Manoeuvre) (boxes : List AuditedBox) (place : ℕ) → IsFirstUnfit may boxes place → rates_in may boxes ≡ Err (Rate place)
unfolding rates_in
first_unfit may boxes place is =
    let here = fit_first_is may boxes place (omega (arith, is.there)) is.before (λ l. is.unfit) in
    rw (here, lt-ltb place (length boxes) is.there) refl

pub fit_all : (may : Manoeuvre) (boxes : List AuditedBox) → rates_in may boxes ≡ Ok tt → AllRatesFit may boxes
unfolding rates_in
fit_all may boxes e = by (nat_lt (fit_first may boxes) (length boxes)) refl e
  where
    by : (b : Bool) → nat_lt (fit_first may boxes) (length boxes) ≡ b → or_rate (cond b (Some (fit_first may boxes)) None) ≡ Ok tt → AllRatesFit may boxes
    by true t e = absurd (cc e)
    by false t e = record { each = λ place l. fit_before may boxes place (omega (arith, ltb-false (fit_first may boxes) (length boxes) t, l)) }

pub unfit_first : (may : Manoeuvre) (boxes : List AuditedBox) (place : ℕ) → rates_in may boxes ≡ Err (Rate place) → IsFirstUnfit may boxes place
unfolding rates_in
unfit_first may boxes place e = by (nat_lt (fit_first may boxes) (length boxes)) refl e
  where
    by : (b : Bool) → nat_lt (fit_first may boxes) (length boxes) ≡ b → or_rate (cond b (Some (fit_first may boxes)) None) ≡ Err (Rate place) → IsFirstUnfit may boxes place
    by true t e =
        let there = ltb-true (fit_first may boxes) (length boxes) t in
        let same : fit_first may boxes ≡ place = cc e in
        subst (IsFirstUnfit may boxes) same (record { there = there; unfit = unfit_there may boxes there; before = fit_before may boxes })
    by false t e = absurd (cc e)

-- ---- texts of boxes that fit

-- a fault of rates is one of a box
pub rates_fault : (may : Manoeuvre) (boxes : List AuditedBox) (fault : InputFault) → rates_in may boxes ≡ Err fault → (place : ℕ) × (fault ≡ Rate place)
unfolding rates_in
rates_fault may boxes fault e = by (position (λ (b : AuditedBox). not (are_within may b.states.intruder)) boxes) e
  where
    by : (o : Option ℕ) → or_rate o ≡ Err fault → (place : ℕ) × (fault ≡ Rate place)
    by None e = absurd (cc e)
    by (Some place) e = (place, cc e)

-- what follows the boxes of a text
abbrev then_rates : Manoeuvre → Result (List AuditedBox) InputFault → Result (List AuditedBox) InputFault
then_rates may r = r >>= (λ boxes. rates_in may boxes >> Ok boxes)

pub fitting_ok : (m : ModelData) (may : Manoeuvre) (bytes : List ℕ) (said : List AuditedBox) → fitting_boxes_of m may bytes ≡ Ok said → (boxes_of m bytes ≡ Ok said) × AllRatesFit may said
unfolding fitting_boxes_of
fitting_ok m may bytes said e = of_boxes (boxes_of m bytes) e
  where
    of_rates : (boxes : List AuditedBox) (s : Result (Unit {0}) InputFault) → rates_in may boxes ≡ s → (s >> Ok boxes) ≡ Ok said → (boxes ≡ said) × AllRatesFit may said
    of_rates boxes (Ok u) is e = let same : boxes ≡ said = cc e in (same, subst (AllRatesFit may) same (fit_all may boxes is))
    of_rates boxes (Err f) is e = absurd (cc e)

    of_boxes : (r : Result (List AuditedBox) InputFault) → then_rates may r ≡ Ok said → (r ≡ Ok said) × AllRatesFit may said
    of_boxes (Ok boxes) e = let both = of_rates boxes (rates_in may boxes) refl e in (ap Ok both.0, both.1)
    of_boxes (Err f) e = absurd (cc e)

-- a text is refused as one of boxes, or by the rates of the boxes that it says
pub fitting_err : (m : ModelData) (may : Manoeuvre) (bytes : List ℕ) (fault : InputFault) → fitting_boxes_of m may bytes ≡ Err fault
    → (boxes_of m bytes ≡ Err fault) ⊎ ((said : List AuditedBox) × (boxes_of m bytes ≡ Ok said) × (rates_in may said ≡ Err fault))
unfolding fitting_boxes_of
fitting_err m may bytes fault e = of_boxes (boxes_of m bytes) e
  where
    of_rates : (boxes : List AuditedBox) (s : Result (Unit {0}) InputFault) → (s >> Ok boxes) ≡ Err fault → s ≡ Err fault
    of_rates boxes (Ok u) e = absurd (cc e)
    of_rates boxes (Err f) e = cc e

    of_boxes : (r : Result (List AuditedBox) InputFault) → then_rates may r ≡ Err fault → (r ≡ Err fault) ⊎ ((said : List AuditedBox) × (r ≡ Ok said) × (rates_in may said ≡ Err fault))
    of_boxes (Ok boxes) e = inr (boxes, refl, of_rates boxes (rates_in may boxes) e)
    of_boxes (Err f) e = inl (cc e)

pub fitting_read : (m : ModelData) (may : Manoeuvre) (bytes : List ℕ) (said : List AuditedBox) → boxes_of m bytes ≡ Ok said → AllRatesFit may said → fitting_boxes_of m may bytes ≡ Ok said
unfolding fitting_boxes_of
fitting_read m may bytes said is all = rw (is, all_fit may said all) refl
