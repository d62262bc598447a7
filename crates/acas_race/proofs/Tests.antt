-- What the tests of times and of curves say.
use Rattle.std.proofs.Common.{◌≡◌, ℕ, ◌*◌, ◌<◌, refl, sym, ◌∙◌, arith, mul-pos, ℤ, pos, ◌*ℤ◌, ◌<ℤ◌, ◌≤ℤ◌, Bool, true, false, int_lt, [], ◌∷◌, ◌↔◌, ◌⊎◌, inr, ⊎_elim, true≢false, IsTrue}
use Rattle.std.proofs.lemmas.Int.{ints}
use lib.IntN.{*ℤ_comm}
use Rattle.acas_frac.proofs.SignedProducts.{lt-from_mul_ℤ, mul-lt_ℤ}
use Rattle.acas_frac.proofs.IntRing.{at, ◌⊗◌, ring}
use Rattle.acas_frac.proofs.Orders.{le_of_lt_ℤ}
use Rattle.acas_flight_lemmas.proofs.Rising.{scaled_le}
use Rattle.acas_rulings.specs.Race.{Race}
use Rattle.acas_rulings.specs.Least.{IsFirstLeastTime}
use Rattle.acas_rulings.specs.Turns.{Instant, IsFirstOf, at_from, at_turn, at_to, race_number, IsSoonerOrSame, fraction_of, times_of}
use Rattle.acas_flight.specs.Window.{Times}
use Rattle.acas_flight.specs.Values.{IsAtMost}

-- the lower of three
lower-lower : (a b c : ℤ) (d e f : ℕ) → 0 < e → 0 < f → (a *ℤ pos (e * e)) <ℤ (b *ℤ pos (d * d)) → (b *ℤ pos (f * f)) ≤ℤ (c *ℤ pos (e * e)) → (a *ℤ pos (f * f)) <ℤ (c *ℤ pos (d * d))
lower-lower a b c d e f s t h k = lt-from_mul_ℤ (e * e) _ _ (line _ _ _ _ _ _ (turn a e f) (mul-lt_ℤ (f * f) _ _ (mul-pos t t) h) (over b d f) (scaled_le _ _ (d * d) k) (turn c e d ∙ *ℤ_comm (pos (d * d)) _))
  where
    turn : (a : ℤ) (e f : ℕ) → pos (e * e) *ℤ (a *ℤ pos (f * f)) ≡ pos (f * f) *ℤ (a *ℤ pos (e * e))
    turn a e f = ring (a ∷ pos e ∷ pos f ∷ []) ((at 1 ⊗ at 1) ⊗ (at 0 ⊗ (at 2 ⊗ at 2))) ((at 2 ⊗ at 2) ⊗ (at 0 ⊗ (at 1 ⊗ at 1))) refl

    over : (b : ℤ) (d f : ℕ) → pos (f * f) *ℤ (b *ℤ pos (d * d)) ≡ (b *ℤ pos (f * f)) *ℤ pos (d * d)
    over b d f = ring (b ∷ pos d ∷ pos f ∷ []) ((at 2 ⊗ at 2) ⊗ (at 0 ⊗ (at 1 ⊗ at 1))) ((at 0 ⊗ (at 2 ⊗ at 2)) ⊗ (at 1 ⊗ at 1)) refl

    line : (x x' y y' z z' : ℤ) → x ≡ x' → x' <ℤ y → y ≡ y' → y' ≤ℤ z' → z ≡ z' → x <ℤ z
    line x x' y y' z z' e h f k g = omega (arith, ints)

pub test_true : (a b : ℤ) (r : Bool) → r ≡ int_lt a b → r ≡ true → a <ℤ b
test_true a b r e t = let h : int_lt a b ≡ true = sym e ∙ t in omega (arith, ints)

pub test_false : (a b : ℤ) (r : Bool) → r ≡ int_lt a b → r ≡ false → b ≤ℤ a
test_false a b r e t = let h : int_lt a b ≡ false = sym e ∙ t in omega (arith, ints)

abbrev Test : Race → Instant → Instant → Bool → Type 0
Test r p p' b = b ≡ int_lt (race_number r p *ℤ pos (p'.den * p'.den)) (race_number r p' *ℤ pos (p.den * p.den))

module _ (r : Race) (from turn to : Instant) (sf : 0 < from.den) (st : 0 < turn.den) (sg : 0 < to.den) where
  -- the turn is lower than the first end
  pub last_of_all : (x y : Bool) → Test r turn from x → Test r to turn y → x ≡ true → y ≡ true → IsFirstOf r from turn to to
  last_of_all x y e f t u =
      at_to (lower-lower (race_number r to) (race_number r turn) (race_number r from) to.den turn.den from.den st sf (test_true _ _ y f u) (le_of_lt_ℤ _ _ (test_true _ _ x e t))) (test_true _ _ y f u)

  pub turn_of_all : (x y : Bool) → Test r turn from x → Test r to turn y → x ≡ true → y ≡ false → IsFirstOf r from turn to turn
  turn_of_all x y e f t u = at_turn (test_true _ _ x e t) (test_false _ _ y f u)

  -- it is not
  pub last_of_ends : (x y : Bool) → Test r turn from x → Test r to from y → x ≡ false → y ≡ true → IsFirstOf r from turn to to
  last_of_ends x y e f t u =
      at_to (test_true _ _ y f u) (lower-lower (race_number r to) (race_number r from) (race_number r turn) to.den from.den turn.den sf st (test_true _ _ y f u) (test_false _ _ x e t))

  pub first_of_all : (x y : Bool) → Test r turn from x → Test r to from y → x ≡ false → y ≡ false → IsFirstOf r from turn to from
  first_of_all x y e f t u = at_from (test_false _ _ x e t) (test_false _ _ y f u)

-- ---- a window's ends as times in numbers

pub in_order : (w : Times) (f g : Instant) → w.from.num ≡ pos f.num → w.from.den ≡ f.den → w.to.num ≡ pos g.num → w.to.den ≡ g.den → IsAtMost w.from w.to → IsSoonerOrSame f g
in_order w f g a b c d h = let k = rw (a, b, c, d) at h in omega (arith, ints, k)

pub on_window : (r : Race) (w : Times) (f g best : Instant) → w.from.num ≡ pos f.num → w.from.den ≡ f.den → w.to.num ≡ pos g.num → w.to.den ≡ g.den →
    IsFirstLeastTime r (times_of f g) (fraction_of best) → IsFirstLeastTime r w (fraction_of best)
on_window r w f g best a b c d is = record {
  after = rw (a, b) is.after;
  before = rw (c, d) is.before;
  least = λ q s t p o i. is.least q s t p o (rw (a, b) at i.0, rw (c, d) at i.1);
  earliest = λ q s t p o i l. is.earliest q s t p o (rw (a, b) at i.0, rw (c, d) at i.1) l;
}

-- ---- tests

pub decided : (a b : ℤ) (x : Bool) (P : Type 0) → x ≡ int_lt a b → ((a <ℤ b) ↔ P) → IsTrue x ↔ P
decided a b x P e i = ((λ t. i.0 (test_true a b x e t)), (λ p. let l = i.1 p in let t : true ≡ int_lt a b = omega (arith, ints, l) in e ∙ sym t))

pub either : (A T B : Type 0) (x y : Bool) → x ≡ false → (IsTrue x ↔ A) → (IsTrue y ↔ T) → (T ↔ B) → IsTrue y ↔ (A ⊎ B)
either A T B x y f i j k = (
  λ t. inr (k.0 (j.0 t)),
  λ s. ⊎_elim (λ a. absurd (true≢false (sym (i.1 a) ∙ f))) (λ b. j.1 (k.1 b)) s,
)
