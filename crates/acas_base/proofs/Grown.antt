-- One more layer behind those that stand.
use Rattle.std.proofs.Common.{◌≡◌, ℕ, ◌+◌, ◌-◌, ◌*◌, ◌<◌, ◌≤◌, List, ◌++◌, length, take, drop, refl, ap, ◌∙◌, arith, length-drop}
use Rattle.std.proofs.Math.Nat.{mul-le-mul_right}
use Rattle.std.proofs.lemmas.List.{drop-append-le, drop_at, take-append-le, take_all}
use Rattle.std.specs.List.{slice_range}
use Rattle.acas_units.specs.declared.pair.Pair.{Pair}
use Rattle.acas_base.specs.Layers.{GainsLayer, LayersData}

-- a range of a list that goes on
range_before : {A : Type 0} (xs ys : List A) (a width : ℕ) → a + width ≤ length xs → slice_range (xs ++ ys) a (a + width) ≡ slice_range xs a (a + width)
range_before xs ys a width inside =
    ap (take (a + width - a)) (drop-append-le a xs ys (omega arith)) ∙ take-append-le (a + width - a) (drop a xs) ys (omega (arith, length-drop a xs))

-- the list that was appended
range_behind : {A : Type 0} (xs ys : List A) (a width : ℕ) → length xs ≡ a → length ys ≡ width → slice_range (xs ++ ys) a (a + width) ≡ ys
range_behind xs ys a width long wide = ap (take (a + width - a)) (drop_at xs ys a long) ∙ take_all (a + width - a) ys (omega arith)

row_end : (n count width : ℕ) → n < count → n * width + width ≤ count * width
row_end n count width below = let next : n + 1 ≤ count = omega arith in omega (arith, mul-le-mul_right width next)

pub grown : (old : LayersData) (pairs : List Pair) (advice : List ℕ) → length old.pairs ≡ old.count * old.states → length old.advice ≡ old.count * old.states
    → length pairs ≡ old.states → length advice ≡ old.states
    → GainsLayer old (record { horizon = old.horizon; states = old.states; count = old.count + 1; pairs = old.pairs ++ pairs; advice = old.advice ++ advice }) pairs advice
grown old pairs advice pairs_long advice_long pairs_wide advice_wide = record {
  horizon = refl;
  states = refl;
  count = refl;
  new_pairs = range_behind old.pairs pairs (old.count * old.states) old.states pairs_long pairs_wide;
  new_advice = range_behind old.advice advice (old.count * old.states) old.states advice_long advice_wide;
  same_pairs = λ n below. range_before old.pairs pairs (n * old.states) old.states (omega (arith, row_end n old.count old.states below));
  same_advice = λ n below. range_before old.advice advice (n * old.states) old.states (omega (arith, row_end n old.count old.states below));
}
