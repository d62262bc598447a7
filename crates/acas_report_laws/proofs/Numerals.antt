-- The texts of numbers: their bytes, and that they give the numbers back.
use Rattle.std.proofs.Common.{◌≡◌, ℕ, zero, suc, ◌+◌, ◌/◌, ◌%◌, ◌^◌, ◌<◌, ◌≤◌, ◌⊎◌, inl, inr, Bool, true, false, cond, eqb, ltb, List, [], ◌∷◌, length, ℤ, pos, negsuc, unsigned_abs, refl, ap, sym, ◌∙◌, subst, arith, nat_eq, if◌then◌else◌, ◌==◌}
use Rattle.std.proofs.Math.Nat.{pow-succ'}
use Rattle.std.proofs.lemmas.Bool.{lt-ltb, ne_eqb, eqb-true, cases_lt}
use Rattle.std.proofs.lemmas.Fmt.{length-decimal-le_wide, decimal_is_IsNumeral_wide}
use Rattle.std.specs.List.{AllByRecursion}
use Rattle.std.specs.Str.Parse.{digits_value}
use Rattle.acas_frac.specs.Fraction.{Fraction, fraction_text}
use Rattle.acas_report_laws.proofs.Separators.{Lacks, Stops, all_append, peel}
use Rattle.std.specs.Fmt.{decimal, signed_decimal, digits, digits_onto, digit_glyph}

-- ---- bytes

-- a last digit first, or the digits of the rest
onto_bytes : (P : ℕ → Type 0) → ((d : ℕ) → d < 10 → P (48 + d)) → (k n : ℕ) (acc : List ℕ) → AllByRecursion P acc → AllByRecursion P (digits_onto k 10 false n acc)
onto_bytes P digit zero n acc all = all
onto_bytes P digit (suc k) n acc all =
    let more : AllByRecursion P (digit_glyph false (n % 10) ∷ acc) = (glyph (ltb (n % 10) 10) refl, all) in
    either (eqb (n / 10) 0) (digit_glyph false (n % 10) ∷ acc) (digits_onto k 10 false (n / 10) (digit_glyph false (n % 10) ∷ acc)) more (onto_bytes P digit k (n / 10) (digit_glyph false (n % 10) ∷ acc) more)
  where
    glyph : (b : Bool) → ltb (n % 10) 10 ≡ b → P (cond b (48 + n % 10) (cond false (55 + n % 10) (87 + n % 10)))
    glyph true e = digit (n % 10) (omega arith)
    glyph false e = let t : true ≡ false = sym (lt-ltb (n % 10) 10 (omega arith)) ∙ e in absurd (cc)

    either : (b : Bool) (xs ys : List ℕ) → AllByRecursion P xs → AllByRecursion P ys → AllByRecursion P (cond b xs ys)
    either true xs ys p q = p
    either false xs ys p q = q

-- each byte of a number is a digit's
pub decimal_bytes : (P : ℕ → Type 0) → ((d : ℕ) → d < 10 → P (48 + d)) → (n : ℕ) → AllByRecursion P (decimal n)
unfolding digits
decimal_bytes P digit n = onto_bytes P digit 64 n [] tt

-- those of a number with a sign
pub signed_bytes : (P : ℕ → Type 0) → ((d : ℕ) → d < 10 → P (48 + d)) → P 45 → (z : ℤ) → AllByRecursion P (signed_decimal z)
signed_bytes P digit sign (pos n) = decimal_bytes P digit n
signed_bytes P digit sign (negsuc n) = (sign, decimal_bytes P digit (suc n))

-- ---- values

some_power : (k : ℕ) → 0 < 10 ^ k
some_power zero = omega arith
some_power (suc k) = omega (arith, pow-succ' 10 k, some_power k)

-- a number of at least so many digits fills them
length_onto : (k n : ℕ) (acc : List ℕ) → 10 ^ k ≤ n → length (digits_onto k 10 false n acc) ≡ k + length acc
length_onto zero n acc large = omega arith
length_onto (suc k) n acc large =
    let power = pow-succ' 10 k in
    let some = some_power k in
    let left : 10 ^ k ≤ n / 10 = omega arith in
    ap (λ t. length (cond t (digit_glyph false (n % 10) ∷ acc) (digits_onto k 10 false (n / 10) (digit_glyph false (n % 10) ∷ acc)))) (ne_eqb (n / 10) 0 (λ e. omega arith))
    ∙ length_onto k (n / 10) (digit_glyph false (n % 10) ∷ acc) left ∙ omega arith

length_wide : (n : ℕ) → 10 ^ 64 ≤ n → length (decimal n) ≡ 64
unfolding digits
length_wide n large = length_onto 64 n [] large

-- a text of a number of at most 63 digits is that of no other number
pub decimal_gives : (n x : ℕ) → n < 10 ^ 63 → decimal n ≡ decimal x → n ≡ x
decimal_gives n x small e = by (cases_lt x (10 ^ 64))
  where
    by : (x < 10 ^ 64) ⊎ (10 ^ 64 ≤ x) → n ≡ x
    by (inl l) =
        let wide : n < 10 ^ 64 = omega arith in
        sym (decimal_is_IsNumeral_wide n wide).1 ∙ ap (digits_value 10) e ∙ (decimal_is_IsNumeral_wide x l).1
    by (inr l) = absurd (omega (arith, length-decimal-le_wide 63 n (omega arith) small (omega arith), ap length e, length_wide x l))

-- no digit is the sign
unsigned : {A : Type 0} (n : ℕ) (text : List ℕ) → decimal n ≡ 45 ∷ text → A
unsigned n text e =
    let bytes = subst (AllByRecursion (λ b. 48 ≤ b)) e (decimal_bytes (λ b. 48 ≤ b) (λ d l. omega arith) n) in
    absurd (omega (arith, bytes.0))

-- the same of a number with a sign
pub signed_gives : (z y : ℤ) → unsigned_abs z < 10 ^ 63 → signed_decimal z ≡ signed_decimal y → z ≡ y
signed_gives (pos n) (pos x) small e = ap pos (decimal_gives n x small e)
signed_gives (pos n) (negsuc x) small e = unsigned n (decimal (suc x)) e
signed_gives (negsuc n) (pos x) small e = unsigned x (decimal (suc n)) (sym e)
signed_gives (negsuc n) (negsuc x) small e =
    let digits : decimal (suc n) ≡ decimal (suc x) = cc in
    let same = decimal_gives (suc n) (suc x) small digits in
    ap negsuc {x = n} {y = x} (omega arith)

-- ---- fractions

-- the denominator, where it is printed
abbrev pub below_text : ℕ → List ℕ
below_text den = if nat_eq den 1 then [] else 47 ∷ decimal den

-- each byte of a fraction
pub fraction_bytes : (P : ℕ → Type 0) → ((d : ℕ) → d < 10 → P (48 + d)) → P 45 → P 47 → (f : Fraction) → AllByRecursion P (fraction_text f)
fraction_bytes P digit sign bar f = all_append P (signed_decimal f.num) (below_text f.den) (signed_bytes P digit sign f.num) (by (nat_eq f.den 1))
  where
    by : (b : Bool) → AllByRecursion P (cond b [] (47 ∷ decimal f.den))
    by true = tt
    by false = (bar, decimal_bytes P digit f.den)

-- the text of a fraction of numbers of at most 63 digits is that of no other
pub fraction_gives : (f g : Fraction) → unsigned_abs f.num < 10 ^ 63 → f.den < 10 ^ 63 → fraction_text f ≡ fraction_text g → f ≡ g
fraction_gives f g num den e =
    let parts = peel (λ b. b == 47) (signed_decimal f.num) (signed_decimal g.num) (below_text f.den) (below_text g.den) (plain f.num) (plain g.num) (stops (nat_eq f.den 1) (decimal f.den)) (stops (nat_eq g.den 1) (decimal g.den)) e in
    let nums = signed_gives f.num g.num num parts.0 in
    let dens = same (nat_eq f.den 1) (nat_eq g.den 1) refl refl parts.1 in
    λ i. record { num = nums i; den = dens i }
  where
    plain : (z : ℤ) → Lacks (λ b. b == 47) (signed_decimal z)
    plain z = signed_bytes (λ b. (b == 47) ≡ false) (λ d l. ne_eqb (48 + d) 47 (λ e. omega arith)) refl z

    stops : (b : Bool) (text : List ℕ) → Stops (λ b. b == 47) (cond b [] (47 ∷ text))
    stops true text = tt
    stops false text = refl

    same : (b c : Bool) → nat_eq f.den 1 ≡ b → nat_eq g.den 1 ≡ c → cond b [] (47 ∷ decimal f.den) ≡ cond c [] (47 ∷ decimal g.den) → f.den ≡ g.den
    same true true p q e = eqb-true f.den 1 p ∙ sym (eqb-true g.den 1 q)
    same true false p q e = absurd (cc)
    same false true p q e = absurd (cc)
    same false false p q e = let digits : decimal f.den ≡ decimal g.den = cc in decimal_gives f.den g.den den digits
