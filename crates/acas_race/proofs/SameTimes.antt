-- The first time of the least gap, as another fraction of the same value.
use Rattle.std.proofs.Common.{ℕ, ◌<◌, refl, ap, ◌∙◌, [], ◌∷◌, ℤ, pos, ◌*ℤ◌}
use Rattle.acas_frac.specs.Fraction.{Fraction, Same}
use Rattle.acas_frac.proofs.IntRing.{at, ◌⊗◌, ring}
use Rattle.acas_flight.specs.Values.{IsOver}
use Rattle.acas_flight.specs.Window.{Times}
use Rattle.acas_flight_lemmas.proofs.Scales.{cancel_left}
use Rattle.acas_flight_windows.proofs.NearestTimes.{above_same, below_same}
use Rattle.acas_rulings.specs.Race.{Race}
use Rattle.acas_rulings.specs.Least.{IsFirstLeastTime}

over-same : (q : ℕ) (n : ℤ) (f g : Fraction) → 0 < f.den → Same f g → IsOver q n f → IsOver q n g
over-same q n f g p e i = cancel_left f.den (n *ℤ pos g.den) (g.num *ℤ pos q) p
    (ring (pos f.den ∷ n ∷ pos g.den ∷ []) (at 0 ⊗ (at 1 ⊗ at 2)) ((at 1 ⊗ at 0) ⊗ at 2) refl
    ∙ ap (λ z. z *ℤ pos g.den) i
    ∙ ring (f.num ∷ pos q ∷ pos g.den ∷ []) ((at 0 ⊗ at 1) ⊗ at 2) ((at 0 ⊗ at 2) ⊗ at 1) refl
    ∙ ap (λ z. z *ℤ pos q) e
    ∙ ring (g.num ∷ pos f.den ∷ pos q ∷ []) ((at 0 ⊗ at 1) ⊗ at 2) (at 1 ⊗ (at 0 ⊗ at 2)) refl)

pub least_time-same : (r : Race) (w : Times) (f g : Fraction) → 0 < f.den → 0 < g.den → Same f g → IsFirstLeastTime r w g → IsFirstLeastTime r w f
least_time-same r w f g p s e is = record {
  after = above_same f g s e w.from.num (pos w.from.den) is.after;
  before = below_same f g s e w.to.num (pos w.to.den) is.before;
  least = λ q m t o i d. is.least q m t o (over-same q (pos m) f g p e i) d;
  earliest = λ q m t o i d l. is.earliest q m t o (over-same q (pos m) f g p e i) d l;
}
