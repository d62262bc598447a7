-- The commutative ring ℤ: its laws, and a normaliser of polynomials that proves identities by computing.
use Rattle.std.proofs.Common.{◌≡◌, ℕ, zero, suc, ◌*◌, Bool, true, false, cond, leb, eqb, eqb→eq, List, [], ◌∷◌, refl, sym, ap, ap₂, subst, ◌∙◌, arith, T, ℤ, pos, negsuc, ◌+ℤ◌, ◌-ℤ◌, ◌*ℤ◌, neg_ℤ}
use Rattle.std.proofs.lemmas.Int.{ints}
use lib.IntN.{*ℤ_comm, +ℤ_assoc}
use Rattle.acas_frac.proofs.SignedProducts.{mul_assoc_ℤ, mul-add_ℤ, add-mul_ℤ, neg-mul_ℤ}

-- ---- the laws

pub mul_left_comm_ℤ : (a b c : ℤ) → a *ℤ (b *ℤ c) ≡ b *ℤ (a *ℤ c)
mul_left_comm_ℤ a b c = sym (mul_assoc_ℤ a b c) ∙ ap (λ x. x *ℤ c) (*ℤ_comm a b) ∙ mul_assoc_ℤ b a c

pub mul_swapped_ℤ : (a b c : ℤ) → (a *ℤ b) *ℤ c ≡ b *ℤ (a *ℤ c)
mul_swapped_ℤ a b c = mul_assoc_ℤ a b c ∙ mul_left_comm_ℤ a b c

pub sub-mul_ℤ : (a b c : ℤ) → (a -ℤ b) *ℤ c ≡ a *ℤ c -ℤ b *ℤ c
sub-mul_ℤ a b c = add-mul_ℤ a (neg_ℤ b) c ∙ ap (λ z. a *ℤ c +ℤ z) (neg-mul_ℤ b c)

pub zero-sub_ℤ : (a : ℤ) → pos 0 -ℤ a ≡ neg_ℤ a
zero-sub_ℤ a = omega (arith, ints)

pub one_mul_ℤ : (a : ℤ) → pos 1 *ℤ a ≡ a
one_mul_ℤ a = omega (arith, ints)

pub zero_mul_ℤ : (a : ℤ) → pos 0 *ℤ a ≡ pos 0
zero_mul_ℤ a = omega (arith, ints)

pub mul_zero_ℤ : (a : ℤ) → a *ℤ pos 0 ≡ pos 0
mul_zero_ℤ a = omega (arith, ints)

pub neg_mul_one_ℤ : (a : ℤ) → negsuc 0 *ℤ a ≡ neg_ℤ a
neg_mul_one_ℤ a = omega (arith, ints)

-- ---- expressions over a list of unknowns

infixl 6 ◌⊕◌
infixl 6 ◌⊖◌
infixl 7 ◌⊗◌
pub data Expr : Type 0 where
  at : ℕ → Expr
  num : ℤ → Expr
  ◌⊕◌ : Expr → Expr → Expr
  ◌⊖◌ : Expr → Expr → Expr
  ◌⊗◌ : Expr → Expr → Expr

-- the unknown of that number
abbrev pub unknown : List ℤ → ℕ → ℤ
unknown [] i = pos 0
unknown (x ∷ xs) zero = x
unknown (x ∷ xs) (suc i) = unknown xs i

abbrev pub eval : List ℤ → Expr → ℤ
eval xs (at i) = unknown xs i
eval xs (num z) = z
eval xs (a ⊕ b) = eval xs a +ℤ eval xs b
eval xs (a ⊖ b) = eval xs a -ℤ eval xs b
eval xs (a ⊗ b) = eval xs a *ℤ eval xs b

-- ---- polynomials: terms of a coefficient and a monomial, the numbers of whose unknowns rise

pub data Poly : Type 0 where
  none : Poly
  term : ℤ → List ℕ → Poly → Poly

abbrev monomial : List ℤ → List ℕ → ℤ
monomial xs [] = pos 1
monomial xs (i ∷ m) = unknown xs i *ℤ monomial xs m

abbrev value : List ℤ → Poly → ℤ
value xs none = pos 0
value xs (term c m p) = (c *ℤ monomial xs m) +ℤ value xs p

abbrev place : ℕ → List ℕ → List ℕ
place i [] = i ∷ []
place i (j ∷ m) = cond (leb i j) (i ∷ (j ∷ m)) (j ∷ place i m)

abbrev joined : List ℕ → List ℕ → List ℕ
joined [] n = n
joined (i ∷ m) n = place i (joined m n)

abbrev same : List ℕ → List ℕ → Bool
same [] [] = true
same [] (j ∷ n) = false
same (i ∷ m) [] = false
same (i ∷ m) (j ∷ n) = cond (eqb i j) (same m n) false

abbrev add_term : ℤ → List ℕ → Poly → Poly
add_term c m none = term c m none
add_term c m (term d n p) = cond (same m n) (term (c +ℤ d) n p) (term d n (add_term c m p))

abbrev add : Poly → Poly → Poly
add none q = q
add (term c m p) q = add_term c m (add p q)

abbrev times_term : ℤ → List ℕ → Poly → Poly
times_term c m none = none
times_term c m (term d n p) = add_term (c *ℤ d) (joined m n) (times_term c m p)

abbrev times : Poly → Poly → Poly
times none q = none
times (term c m p) q = add (times_term c m q) (times p q)

abbrev pub norm : Expr → Poly
norm (at i) = term (pos 1) (i ∷ []) none
norm (num z) = term z [] none
norm (a ⊕ b) = add (norm a) (norm b)
norm (a ⊖ b) = add (norm a) (times_term (negsuc 0) [] (norm b))
norm (a ⊗ b) = times (norm a) (norm b)

abbrev is_zero : ℤ → Bool
is_zero (pos zero) = true
is_zero (pos (suc n)) = false
is_zero (negsuc n) = false

-- each coefficient is 0
abbrev pub vanishes : Poly → Bool
vanishes none = true
vanishes (term c m p) = cond (is_zero c) (vanishes p) false

-- ---- each step keeps the value

cond_value : (xs : List ℤ) (b : Bool) (p q : Poly) (z : ℤ) → (b ≡ true → value xs p ≡ z) → (b ≡ false → value xs q ≡ z) → value xs (cond b p q) ≡ z
cond_value xs true p q z f g = f refl
cond_value xs false p q z f g = g refl

cond_monomial : (xs : List ℤ) (b : Bool) (m n : List ℕ) (z : ℤ) → monomial xs m ≡ z → monomial xs n ≡ z → monomial xs (cond b m n) ≡ z
cond_monomial xs true m n z f g = f
cond_monomial xs false m n z f g = g

place-value : (xs : List ℤ) (i : ℕ) (m : List ℕ) → monomial xs (place i m) ≡ unknown xs i *ℤ monomial xs m
place-value xs i [] = refl
place-value xs i (j ∷ m) =
    cond_monomial xs (leb i j) _ _ _ refl
    (ap (λ z. unknown xs j *ℤ z) (place-value xs i m) ∙ mul_left_comm_ℤ (unknown xs j) (unknown xs i) (monomial xs m))

joined-value : (xs : List ℤ) (m n : List ℕ) → monomial xs (joined m n) ≡ monomial xs m *ℤ monomial xs n
joined-value xs [] n = sym (one_mul_ℤ (monomial xs n))
joined-value xs (i ∷ m) n =
    place-value xs i (joined m n)
    ∙ ap (λ z. unknown xs i *ℤ z) (joined-value xs m n)
    ∙ sym (mul_assoc_ℤ (unknown xs i) (monomial xs m) (monomial xs n))

if_both : (a b : Bool) → cond a b false ≡ true → (a ≡ true) × (b ≡ true)
if_both true b e = (refl, e)
if_both false b e = grind arith

same-is : (m n : List ℕ) → same m n ≡ true → m ≡ n
same-is [] [] e = refl
same-is [] (j ∷ n) e = grind arith
same-is (i ∷ m) [] e = grind arith
same-is (i ∷ m) (j ∷ n) e =
    let both = if_both (eqb i j) (same m n) e in
    let first : i ≡ j = eqb→eq i j (subst T (sym both.0) tt) in
    ap₂ ◌∷◌ first (same-is m n both.1)

add_term-value : (xs : List ℤ) (c : ℤ) (m : List ℕ) (p : Poly) → value xs (add_term c m p) ≡ (c *ℤ monomial xs m) +ℤ value xs p
add_term-value xs c m none = refl
add_term-value xs c m (term d n p) =
    cond_value xs (same m n) _ _ _
    (λ e.
    let at_n : monomial xs m ≡ monomial xs n = ap (monomial xs) (same-is m n e) in
    rw at_n (ap (λ z. z +ℤ value xs p) (add-mul_ℤ c d (monomial xs n)) ∙ +ℤ_assoc (c *ℤ monomial xs n) (d *ℤ monomial xs n) (value xs p)))
    (λ e. rotated (d *ℤ monomial xs n) (c *ℤ monomial xs m) (value xs p) (value xs (add_term c m p)) (add_term-value xs c m p))
  where
    rotated : (a b p r : ℤ) → r ≡ b +ℤ p → a +ℤ r ≡ b +ℤ (a +ℤ p)
    rotated a b p r e = omega (arith, ints)

add-value : (xs : List ℤ) (p q : Poly) → value xs (add p q) ≡ value xs p +ℤ value xs q
add-value xs none q = summed (value xs q)
  where
    summed : (z : ℤ) → z ≡ pos 0 +ℤ z
    summed z = omega (arith, ints)
add-value xs (term c m p) q =
    add_term-value xs c m (add p q)
    ∙ ap (λ z. (c *ℤ monomial xs m) +ℤ z) (add-value xs p q)
    ∙ sym (+ℤ_assoc (c *ℤ monomial xs m) (value xs p) (value xs q))

four : (a b c d : ℤ) → (a *ℤ b) *ℤ (c *ℤ d) ≡ (a *ℤ c) *ℤ (b *ℤ d)
four a b c d = mul_assoc_ℤ a b (c *ℤ d) ∙ ap (λ z. a *ℤ z) (mul_left_comm_ℤ b c d) ∙ sym (mul_assoc_ℤ a c (b *ℤ d))

times_term-value : (xs : List ℤ) (c : ℤ) (m : List ℕ) (p : Poly) → value xs (times_term c m p) ≡ (c *ℤ monomial xs m) *ℤ value xs p
times_term-value xs c m none = sym (mul_zero_ℤ (c *ℤ monomial xs m))
times_term-value xs c m (term d n p) =
    add_term-value xs (c *ℤ d) (joined m n) (times_term c m p)
    ∙ ap₂ ◌+ℤ◌ (ap (λ z. (c *ℤ d) *ℤ z) (joined-value xs m n) ∙ four c d (monomial xs m) (monomial xs n)) (times_term-value xs c m p)
    ∙ sym (mul-add_ℤ (c *ℤ monomial xs m) (d *ℤ monomial xs n) (value xs p))

times-value : (xs : List ℤ) (p q : Poly) → value xs (times p q) ≡ value xs p *ℤ value xs q
times-value xs none q = sym (zero_mul_ℤ (value xs q))
times-value xs (term c m p) q =
    add-value xs (times_term c m q) (times p q)
    ∙ ap₂ ◌+ℤ◌ (times_term-value xs c m q) (times-value xs p q)
    ∙ sym (add-mul_ℤ (c *ℤ monomial xs m) (value xs p) (value xs q))

mul_one_ℤ : (a : ℤ) → a *ℤ pos 1 ≡ a
mul_one_ℤ a = omega (arith, ints)

add_zero_ℤ : (a : ℤ) → a +ℤ pos 0 ≡ a
add_zero_ℤ a = omega (arith, ints)

norm-value : (xs : List ℤ) (e : Expr) → value xs (norm e) ≡ eval xs e
norm-value xs (at i) = add_zero_ℤ _ ∙ one_mul_ℤ _ ∙ mul_one_ℤ (unknown xs i)
norm-value xs (num z) = add_zero_ℤ _ ∙ mul_one_ℤ z
norm-value xs (a ⊕ b) = add-value xs (norm a) (norm b) ∙ ap₂ ◌+ℤ◌ (norm-value xs a) (norm-value xs b)
norm-value xs (a ⊖ b) =
    add-value xs (norm a) (times_term (negsuc 0) [] (norm b))
    ∙ ap₂ ◌+ℤ◌ (norm-value xs a) (times_term-value xs (negsuc 0) [] (norm b) ∙ ap (λ z. z *ℤ value xs (norm b)) (mul_one_ℤ (negsuc 0)) ∙ neg_mul_one_ℤ (value xs (norm b)) ∙ ap neg_ℤ (norm-value xs b))
norm-value xs (a ⊗ b) = times-value xs (norm a) (norm b) ∙ ap₂ ◌*ℤ◌ (norm-value xs a) (norm-value xs b)

is_zero-is : (c : ℤ) → is_zero c ≡ true → c ≡ pos 0
is_zero-is (pos zero) e = refl
is_zero-is (pos (suc n)) e = grind arith
is_zero-is (negsuc n) e = grind arith

vanishes-value : (xs : List ℤ) (p : Poly) → vanishes p ≡ true → value xs p ≡ pos 0
vanishes-value xs none e = refl
vanishes-value xs (term c m p) e =
    let both = if_both (is_zero c) (vanishes p) e in
    ap₂ ◌+ℤ◌ (ap (λ z. z *ℤ monomial xs m) (is_zero-is c both.0) ∙ zero_mul_ℤ (monomial xs m)) (vanishes-value xs p both.1)

no_difference : (a b : ℤ) → a -ℤ b ≡ pos 0 → a ≡ b
no_difference a b e = omega (arith, ints)

-- An identity of polynomials over ℤ, proved by computing: `ring xs l r refl`.
pub ring : (xs : List ℤ) (l r : Expr) → vanishes (norm (l ⊖ r)) ≡ true → eval xs l ≡ eval xs r
ring xs l r e = no_difference (eval xs l) (eval xs r) (sym (norm-value xs (l ⊖ r)) ∙ vanishes-value xs (norm (l ⊖ r)) e)

pub mul_pos_mul_ℤ : (s : ℤ) (q m : ℕ) → s *ℤ pos (q * m) ≡ (s *ℤ pos q) *ℤ pos m
mul_pos_mul_ℤ s q m = ring (s ∷ pos q ∷ pos m ∷ []) (at 0 ⊗ (at 1 ⊗ at 2)) ((at 0 ⊗ at 1) ⊗ at 2) refl
