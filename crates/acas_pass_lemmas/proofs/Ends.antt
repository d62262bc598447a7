-- The flight at which passes end, of any type of flights: it is one, it is in contact, and there is one where the last flight of the
-- last pass is not below.
use Rattle.std.proofs.Common.{◌≡◌, ℕ, zero, suc, ◌+◌, ◌-◌, ◌*◌, ◌/◌, ◌<◌, ◌≤◌, ◌⊎◌, inl, inr, ⊎_elim, refl, ap, ◌∙◌, sym, arith, Bool, true, false, true≢false, List, [], ◌∷◌, pos, neg_ℤ, ◌≤ℤ◌, ◌<ℤ◌, int_lt, mul-le-mul_right}
use Rattle.std.proofs.lemmas.Int.{ints}
use Rattle.std.proofs.lemmas.Bool.{cases_lt, cases_Bool}
use Rattle.std.proofs.Math.Nat.{div-mul-le_self, lt-div-mul-add}
use Rattle.acas_frac.specs.Fraction.{Fraction}
use Rattle.acas_frac.proofs.Orders.{cases_lt_ℤ}
use Rattle.acas_areas.specs.Value.{is_below, IsWithinHalf, thinnest}
use Rattle.acas_areas.specs.Halving.{HalvesTo, ends, raises, lowers}
use Rattle.acas_areas.proofs.Halvings.{IsWithin-next, Bracket-first}
use Rattle.acas_areas.specs.Passes.{Pass, IsLast, EndsAt, here, later, below_at, IsGentle, AreJoined, Each, IsFound, at_low, at_high, between}

pub map_each : {F : Type 0} (P Q : Pass F → Type 0) (ps : List (Pass F)) → ((p : Pass F) → P p → Q p) → Each P ps → Each Q ps
map_each P Q [] f a = tt
map_each P Q (p ∷ rest) f a = (f p a.0, map_each P Q rest f a.1)

-- ---- one

not_before : {F : Type 0} (p : Pass F) (m n : ℕ) → IsLast p m → IsLast p n → m < n → ⊥
not_before p m n i j h =
    let k : (m + 1) * p.step ≤ n * p.step = mul-le-mul_right p.step (omega arith) in
    omega (arith, k, i.reaches, j.first)

last-one : {F : Type 0} (p : Pass F) (m n : ℕ) → IsLast p m → IsLast p n → m ≡ n
last-one p m n i j =
    ⊎_elim (λ (l : m < n). absurd (not_before p m n i j l))
    (λ (l : n ≤ m). ⊎_elim (λ (k : n < m). absurd (not_before p n m j i k)) (λ (k : m ≤ n). omega arith) (cases_lt n m))
    (cases_lt m n)

both : {P : Type 0} (b : Bool) → b ≡ true → b ≡ false → P
both b t f = absurd (true≢false (sym t ∙ f))

pub halving-one : (below : ℕ → Bool) (low high a b : ℕ) → HalvesTo below low high a → HalvesTo below low high b → a ≡ b
halving-one below _ _ _ _ (ends low high h) (ends _ _ k) = refl
halving-one below _ _ _ _ (ends low high h) (raises _ _ b k t s) = absurd (omega arith)
halving-one below _ _ _ _ (ends low high h) (lowers _ _ b k t s) = absurd (omega arith)
halving-one below _ _ _ _ (raises low high a h t s) (ends _ _ k) = absurd (omega arith)
halving-one below _ _ _ _ (raises low high a h t s) (raises _ _ b k u r) = halving-one below ((low + high) / 2) high a b s r
halving-one below _ _ _ _ (raises low high a h t s) (lowers _ _ b k u r) = both (below ((low + high) / 2)) t u
halving-one below _ _ _ _ (lowers low high a h t s) (ends _ _ k) = absurd (omega arith)
halving-one below _ _ _ _ (lowers low high a h t s) (raises _ _ b k u r) = both (below ((low + high) / 2)) u t
halving-one below _ _ _ _ (lowers low high a h t s) (lowers _ _ b k u r) = halving-one below low ((low + high) / 2) a b s r

at_last : {F : Type 0} (value : F → Fraction) (half : ℕ) (p : Pass F) (m n : ℕ) (t : Bool) → m ≡ n → below_at value half p m ≡ t → below_at value half p n ≡ t
at_last value half p m n t e h = rw e at h

same_last : (below : ℕ → Bool) (m n a : ℕ) → m ≡ n → HalvesTo below 0 m a → HalvesTo below 0 n a
same_last below m n a e h = rw e at h

pub end-one : {F : Type 0} (value : F → Fraction) (half : ℕ) (ps : List (Pass F)) (c d : F) → EndsAt value half ps c → EndsAt value half ps d → c ≡ d
end-one value half _ _ _ (here p rest m a l t h) (here _ _ n b k u j) =
    ap p.point (halving-one (below_at value half p) 0 n a b (same_last (below_at value half p) m n a (last-one p m n l k) h) j)
end-one value half _ _ _ (here p rest m a l t h) (later _ _ n d k u j) = both (below_at value half p n) u (at_last value half p m n false (last-one p m n l k) t)
end-one value half _ _ _ (later p rest m c l t h) (here _ _ n b k u j) = both (below_at value half p n) (at_last value half p m n true (last-one p m n l k) t) u
end-one value half _ _ _ (later p rest m c l t h) (later _ _ n d k u j) = end-one value half rest c d h j

pub found-one : {F : Type 0} (value : F → Fraction) (half : ℕ) (low high : F) (ps : List (Pass F)) (c d : F) → IsFound value half low high ps c → IsFound value half low high ps d → c ≡ d
found-one value half low high ps _ _ (at_low i) (at_low j) = refl
found-one value half low high ps _ _ (at_low i) (at_high n j) = absurd (n i)
found-one value half low high ps _ _ (at_low i) (between d n m j) = absurd (n i)
found-one value half low high ps _ _ (at_high n i) (at_low j) = absurd (n j)
found-one value half low high ps _ _ (at_high n i) (at_high m j) = refl
found-one value half low high ps _ _ (at_high n i) (between d k m j) = absurd (m i)
found-one value half low high ps _ _ (between c n m i) (at_low j) = absurd (n j)
found-one value half low high ps _ _ (between c n m i) (at_high k j) = absurd (m j)
found-one value half low high ps _ _ (between c n m i) (between d k l j) = end-one value half ps c d i j

-- ---- in contact

-- the halving ends at a point that is not below, just after one that is
record IsCrossing (below : ℕ → Bool) (end : ℕ) : Type 0 where
  before : ℕ
  next : end ≡ before + 1
  low : below before ≡ true
  high : below end ≡ false

crossing : (below : ℕ → Bool) (low high end : ℕ) → HalvesTo below low high end → low < high → below low ≡ true → below high ≡ false → IsCrossing below end
crossing below _ _ _ (ends low high h) l a b = record { before = low; next = omega arith; low = a; high = b }
crossing below _ _ _ (raises low high end h t s) l a b = crossing below ((low + high) / 2) high end s (omega arith) t b
crossing below _ _ _ (lowers low high end h t s) l a b = crossing below low ((low + high) / 2) end s (omega arith) a t

abbrev pub AllSome : {F : Type 0} → (F → Fraction) → Pass F → Type 0
AllSome value p = (i : ℕ) → 0 < (value (p.point i)).den

in_pass : {F : Type 0} (value : F → Fraction) (half : ℕ) (p : Pass F) (last end : ℕ) → thinnest ≤ 2 * half → IsGentle value p → AllSome value p → below_at value half p 0 ≡ true → below_at value half p last ≡ false → HalvesTo (below_at value half p) 0 last end → IsWithinHalf half (value (p.point end))
in_pass value half p last end thick gentle some a b h =
    let x = crossing (below_at value half p) 0 last end h (Bracket-first (below_at value half p) last a b).apart a b in
    IsWithin-next half (value (p.point x.before)) (value (p.point end)) thick (some x.before) (some end) x.low x.high
    (rw (sym x.next) at (gentle x.before))

-- the first flight of the passes
abbrev pub StartsBelow : {F : Type 0} → (F → Fraction) → ℕ → List (Pass F) → Type 0
StartsBelow value half [] = Unit {0}
StartsBelow value half (p ∷ rest) = below_at value half p 0 ≡ true

goes_on : {F : Type 0} (value : F → Fraction) (half : ℕ) (p : Pass F) (rest : List (Pass F)) (last : ℕ) → AreJoined (p ∷ rest) → IsLast p last → below_at value half p last ≡ true → StartsBelow value half rest × AreJoined rest
goes_on value half p [] last j l b = (tt, tt)
goes_on value half p (p' ∷ rest) last j l b = (ap (λ c. is_below half (value c)) (sym (j.0 last l)) ∙ b, j.1)

pub ends-within : {F : Type 0} (value : F → Fraction) (half : ℕ) (ps : List (Pass F)) (c : F) → thinnest ≤ 2 * half → Each (IsGentle value) ps → Each (AllSome value) ps → AreJoined ps → StartsBelow value half ps → EndsAt value half ps c → IsWithinHalf half (value c)
ends-within value half _ _ thick g s j b (here p rest last at l t h) = in_pass value half p last at thick g.0 s.0 b t h
ends-within value half _ _ thick g s j b (later p rest last c l t e) = let n = goes_on value half p rest last j l t in ends-within value half rest c thick g.1 s.1 n.1 n.0 e

pub ends-in : {F : Type 0} (value : F → Fraction) (P : F → Type 0) (half : ℕ) (ps : List (Pass F)) (c : F) → Each (λ p. (i : ℕ) → P (p.point i)) ps → EndsAt value half ps c → P c
ends-in value P half _ _ a (here p rest last at l t h) = a.0 at
ends-in value P half _ _ a (later p rest last c l t e) = ends-in value P half rest c a.1 e

-- ---- some

reached : (way step n : ℕ) → 0 < step → n * step ≤ way + (step - 1) → way + (step - 1) < n * step + step → (way ≤ n * step) × (n * step < way + step)
reached way step n s h k = (omega arith, omega arith)

last_of : {F : Type 0} (p : Pass F) → 0 < p.step → (last : ℕ) × IsLast p last
last_of p s =
    let n = (p.way + (p.step - 1)) / p.step in
    let both = reached p.way p.step n s (div-mul-le_self (p.way + (p.step - 1)) p.step) (lt-div-mul-add {a = p.way + (p.step - 1)} {b = p.step} s) in
    (n, record { reaches = both.0; first = both.1 })

halving : (below : ℕ → Bool) (room low high : ℕ) → high ≤ low + 1 + room → (end : ℕ) × HalvesTo below low high end
halving below zero low high h = (high, ends low high (omega arith))
halving below (suc room) low high h = elim (cases_lt (low + 1) high) [
  | inl far ↦ elim (cases_Bool (below ((low + high) / 2))) [
    | inl t ↦ let e = halving below room ((low + high) / 2) high (omega arith) in (e.0, raises low high e.0 far t e.1)
    | inr t ↦ let e = halving below room low ((low + high) / 2) (omega arith) in (e.0, lowers low high e.0 far t e.1)
  ]
  | inr near ↦ (high, ends low high near)
]

abbrev pub EndsNotBelow : {F : Type 0} → (F → Fraction) → ℕ → List (Pass F) → Type 0
EndsNotBelow value half [] = ⊥
EndsNotBelow value half (p ∷ []) = (last : ℕ) → IsLast p last → below_at value half p last ≡ false
EndsNotBelow value half (p ∷ p' ∷ rest) = EndsNotBelow value half (p' ∷ rest)

end_here : {F : Type 0} (value : F → Fraction) (half : ℕ) (p : Pass F) (rest : List (Pass F)) (last : ℕ) → IsLast p last → below_at value half p last ≡ false → (c : F) × EndsAt value half (p ∷ rest) c
end_here value half p rest last l t =
    let end = halving (below_at value half p) last 0 last (omega arith) in
    (p.point end.0, here p rest last end.0 l t end.1)

pub end_of : {F : Type 0} (value : F → Fraction) (half : ℕ) (ps : List (Pass F)) → Each (λ p. 0 < p.step) ps → EndsNotBelow value half ps → (c : F) × EndsAt value half ps c
end_of value half [] steps e = absurd e
end_of value half (p ∷ []) steps e = let last = last_of p steps.0 in end_here value half p [] last.0 last.1 (e last.0 last.1)
end_of value half (p ∷ p' ∷ rest) steps e =
    let last = last_of p steps.0 in
    elim (cases_Bool (below_at value half p last.0)) [
      | inl t ↦ let more = end_of value half (p' ∷ rest) steps.1 e in (more.0, later p (p' ∷ rest) last.0 more.0 last.1 t more.1)
      | inr t ↦ end_here value half p (p' ∷ rest) last.0 last.1 t
    ]

pub below_or_not : (half : ℕ) (f : Fraction) → f.num ≤ℤ pos (half * f.den) → ¬ IsWithinHalf half f → is_below half f ≡ true
below_or_not half f h n = ⊎_elim
    (λ (l : f.num <ℤ neg_ℤ (pos (half * f.den))). let e : true ≡ int_lt f.num (neg_ℤ (pos (half * f.den))) = omega (arith, ints) in sym e)
    (λ l. absurd (n (record { not_below = l; not_above = h })))
    (cases_lt_ℤ f.num (neg_ℤ (pos (half * f.den))))

within_or_not : (half : ℕ) (f : Fraction) → IsWithinHalf half f ⊎ (IsWithinHalf half f → ⊥)
within_or_not half f = elim (cases_lt_ℤ f.num (neg_ℤ (pos (half * f.den)))) [
  | inl under ↦ inr (λ w. omega (arith, ints, under, w.not_below))
  | inr low ↦ elim (cases_lt_ℤ (pos (half * f.den)) f.num) [
    | inl over ↦ inr (λ w. omega (arith, ints, over, w.not_above))
    | inr high ↦ inl (record { not_below = low; not_above = high })
  ]
]

pub found : {F : Type 0} (value : F → Fraction) (half : ℕ) (low high : F) (ps : List (Pass F)) → Each (λ p. 0 < p.step) ps → EndsNotBelow value half ps → (c : F) × IsFound value half low high ps c
found value half low high ps steps e = elim (within_or_not half (value low)) [
  | inl at ↦ (low, at_low at)
  | inr not_low ↦ elim (within_or_not half (value high)) [
    | inl at ↦ (high, at_high not_low at)
    | inr not_high ↦ let end = end_of value half ps steps e in (end.0, between end.0 not_low not_high end.1)
  ]
]

-- ---- what is found has what the low and the high flight and each point have, and is in contact

pub found_of : {F : Type 0} (value : F → Fraction) (P : F → Type 0) (half : ℕ) (low high : F) (ps : List (Pass F)) → thinnest ≤ 2 * half → P low → P high → Each (λ p. (i : ℕ) → P (p.point i)) ps →
    Each (IsGentle value) ps → Each (AllSome value) ps → AreJoined ps → (¬ IsWithinHalf half (value low) → StartsBelow value half ps) →
    (c : F) → IsFound value half low high ps c → P c × IsWithinHalf half (value c)
found_of value P half low high ps thick pl ph all g s j b _ (at_low i) = (pl, i)
found_of value P half low high ps thick pl ph all g s j b _ (at_high n i) = (ph, i)
found_of value P half low high ps thick pl ph all g s j b _ (between c n m e) = (ends-in value P half ps c all e, ends-within value half ps c thick g s j (b n) e)
