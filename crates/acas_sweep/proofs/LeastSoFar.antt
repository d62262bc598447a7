-- The least value of the first choices of a list, for a loop that goes up, and the first choice that has the least value of all.
use Rattle.std.specs.Int.{int_min}
use Rattle.std.proofs.Common.{◌≡◌, ◌≢◌, ℕ, zero, suc, ◌+◌, ◌<◌, ◌≤◌, ℤ, List, [], ◌∷◌, length, get_or, take, refl, sym, subst, ◌∙◌, ⊎_elim, arith}
use Rattle.std.proofs.lemmas.Bool.{cases_lt}
use Rattle.std.proofs.lemmas.Int.{ints, clamps}
use Rattle.acas_spec.specs.Model.{ModelData}
use Rattle.acas_spec.specs.declared.parts.Choice.{Choice}
use Rattle.acas_process.specs.Compiled.{first_least, least}
use Rattle.acas_process.proofs.Least.{first_at}
use Rattle.acas_units.specs.declared.pair.Pair.{Pair}
use Rattle.acas_means.specs.Choices.{no_choice, value_by_mean}
use Rattle.acas_means.specs.Layer.{value_at}
use Rattle.acas_means.specs.declared.layer.Side.TheVariants.{Upper, Lower}
use Rattle.acas_sweep.specs.Best.{IsLeast, IsValued}

-- ---- the least value so far

-- of one choice more
pub least-take : (f : ℕ → ℤ) (cs : List Choice) (i : ℕ) (d : Choice) → 0 < i → i < length cs → least f (take (suc i) cs) ≡ int_min (least f (take i cs)) (f (get_or cs i d).advisory)
least-take f [] i d some h = absurd (omega arith)
least-take f (c ∷ []) i d some h = absurd (omega arith)
least-take f (c ∷ e ∷ rest) zero d some h = absurd (omega arith)
least-take f (c ∷ e ∷ rest) (suc zero) d some h = refl
least-take f (c ∷ e ∷ rest) (suc (suc i)) d some h = omega (arith, ints, clamps, least-take f (e ∷ rest) (suc i) d (omega arith) (omega arith))

-- a pair has the lesser values of two
pub record IsLesser (pair later lesser : Pair) : Type 0 where
  pub upper : lesser.upper ≡ int_min pair.upper later.upper
  pub lower : lesser.lower ≡ int_min pair.lower later.lower

-- of the least values of the first choices and the values of the next one
pub least_next : (m : ModelData) (means : List Pair) (p : ℕ) (cs : List Choice) (i : ℕ) (pair later lesser : Pair) → 0 < i → i < length cs
    → IsLeast m means p (take i cs) pair → IsValued m means p (get_or cs i no_choice).advisory later → IsLesser pair later lesser → IsLeast m means p (take (i + 1) cs) lesser
least_next m means p cs i pair later lesser some within so_far v is =
    let next : suc i ≡ i + 1 = omega arith in
    subst (λ (k : ℕ). IsLeast m means p (take k cs) lesser) next
    (record {
      upper = is.upper ∙ rw (so_far.upper, v.upper) (sym (least-take (value_by_mean m p (value_at Upper means)) cs i no_choice some within));
      lower = is.lower ∙ rw (so_far.lower, v.lower) (sym (least-take (value_by_mean m p (value_at Lower means)) cs i no_choice some within));
    })

-- ---- the first choice that has the least value

-- none of the first choices has it, so there is one more
pub one_more : (f : ℕ → ℤ) (cs : List Choice) (d : Choice) (i : ℕ) → 0 < length cs → ((k : ℕ) → k < i → f (get_or cs k d).advisory ≢ least f cs) → i < length cs
one_more f cs d i some none =
    let at = first_at f cs d some in
    ⊎_elim
    (λ (l : at.place < i). absurd (none at.place l (subst (λ (a : ℕ). f a ≡ least f cs) (sym at.stands) at.value)))
    (λ (h : i ≤ at.place). omega (arith, h, at.within))
    (cases_lt at.place i)

-- one has it, and none before it
pub first_of : (f : ℕ → ℤ) (cs : List Choice) (d : Choice) (i : ℕ) → i < length cs → ((k : ℕ) → k < i → f (get_or cs k d).advisory ≢ least f cs) → f (get_or cs i d).advisory ≡ least f cs →
    (get_or cs i d).advisory ≡ first_least f cs
first_of f cs d i within none is =
    let at = first_at f cs d (omega arith) in
    ⊎_elim
    (λ (l : at.place < i). absurd (none at.place l (subst (λ (a : ℕ). f a ≡ least f cs) (sym at.stands) at.value)))
    (λ (h : i ≤ at.place).
    ⊎_elim
    (λ (l : i < at.place). absurd (omega (arith, ints, is, at.before i l)))
    (λ (g : at.place ≤ i). let same : at.place ≡ i = omega arith in subst (λ (k : ℕ). (get_or cs k d).advisory ≡ first_least f cs) same at.stands)
    (cases_lt i at.place))
    (cases_lt at.place i)
