-- A table has one report alone: what is found of the cells that are looked at is one, and nothing else is printed or counted.
use Rattle.std.proofs.Common.{◌≡◌, ℕ, ◌+◌, ◌<◌, ◌&&◌, refl, sym, ap, ap₂, ◌∙◌, arith, Bool, true, false, cond, List, [], ◌∷◌, ◌++◌, Contains, nat_lt, count_by, Option, subst}
use Rattle.std.specs.List.{flat_map}
use Rattle.std.proofs.lemmas.Bool.Decides.{nat_tests}
use Rattle.std.proofs.lemmas.List.Sums.{sum_by-cons}
use Rattle.acas_spec.specs.Limits.{IsModel}
use Rattle.acas_spec.specs.Model.{ModelData}
use Rattle.acas_base.specs.Advices.{AdvicesData}
use Rattle.acas_outside.specs.Bytes.{AppendsPart}
use Rattle.acas_cells.specs.Cells.{Cell, cells_of}
use Rattle.acas_cells.specs.Corners.{is_clear_cell}
use Rattle.acas_cells.proofs.Lists.{in_first, in_rest}
use Rattle.acas_cells.proofs.Order.{of_cells}
use Rattle.acas_safeable.specs.Outlooks.{AreOutlooks, is_looked_at}
use Rattle.acas_safeable.specs.SafeableText.{IsSafeableBegun, IsSafeableReport, cell_line, cell_text, counts_of, counts_text, is_near, is_open, is_safeable, safeable_text}
use Rattle.acas_safeable.specs.declared.counts.SafeCounts.{SafeCounts}
use Rattle.acas_safeable.specs.declared.outlook.Outlook.{Outlook}
use Rattle.acas_safeable.proofs.Shown.{outlook-same}
use Rattle.acas_safeable.proofs.SomeOutlooks.{some_outlooks}

-- ---- what is alike at each member

flat_map-same : {A B : Type 0} (f g : A → List B) (xs : List A) → ((x : A) → Contains xs x → f x ≡ g x) → flat_map f xs ≡ flat_map g xs
flat_map-same f g [] h = refl
flat_map-same f g (x ∷ xs) h = ap₂ (λ ys zs. ys ++ zs) (h x (in_first x xs)) (flat_map-same f g xs (λ y listed. h y (in_rest x xs y listed)))

count_by-same : {A : Type 0} (p r : A → Bool) (xs : List A) → ((x : A) → Contains xs x → p x ≡ r x) → count_by p xs ≡ count_by r xs
count_by-same p r [] h = refl
count_by-same p r (x ∷ xs) h =
    sum_by-cons (λ y. cond (p y) 1 0) x xs
    ∙ ap₂ (λ (b : Bool) (n : ℕ). cond b 1 0 + n) (h x (in_first x xs)) (count_by-same p r xs (λ y listed. h y (in_rest x xs y listed)))
    ∙ sym (sum_by-cons (λ y. cond (r y) 1 0) x xs)

guarded : {A B : Type 0} (b : Bool) (f : A → B) (x y : A) (other : B) → (b ≡ true → x ≡ y) → cond b (f x) other ≡ cond b (f y) other
guarded true f x y other h = ap f (h refl)
guarded false f x y other h = refl

guarded_and : {A : Type 0} (b : Bool) (test : A → Bool) (x y : A) → (b ≡ true → x ≡ y) → (b && test x) ≡ (b && test y)
guarded_and true test x y h = ap test (h refl)
guarded_and false test x y h = refl

looked_later : (b : Bool) (n : ℕ) → (b && nat_lt 0 n) ≡ true → 0 < n
looked_later true n h = grind (arith, nat_tests)
looked_later false n h = absurd (grind (arith, nat_tests, h))

-- ---- reports

module _ (m : ModelData) (a : AdvicesData) (is : IsModel m) (f g : Cell → Outlook) (of : AreOutlooks m a f) (og : AreOutlooks m a g) where
  same_at : (c : Cell) → Contains (cells_of m) c → is_looked_at m a c ≡ true → f c ≡ g c
  same_at c listed looked =
      let inside = of_cells m c listed in
      outlook-same m c is (looked_later (is_clear_cell m a c) c.n looked) (f c) (g c) (of.each c inside looked) (og.each c inside looked)

  same_text : flat_map (cell_text m a f) (cells_of m) ≡ flat_map (cell_text m a g) (cells_of m)
  same_text = flat_map-same (cell_text m a f) (cell_text m a g) (cells_of m) (λ c listed. guarded (is_looked_at m a c) (cell_line m c) (f c) (g c) [] (same_at c listed))

  same_count : (test : Outlook → Bool) → count_by (λ c. is_looked_at m a c && test (f c)) (cells_of m) ≡ count_by (λ c. is_looked_at m a c && test (g c)) (cells_of m)
  same_count test = count_by-same (λ c. is_looked_at m a c && test (f c)) (λ c. is_looked_at m a c && test (g c)) (cells_of m) (λ c listed. guarded_and (is_looked_at m a c) test (f c) (g c) (same_at c listed))

  pub same_counts : counts_of m a f ≡ counts_of m a g
  same_counts = ap₂ (λ (x y : ℕ). the_counts x y (count_by (is_near m a) (cells_of m))) (same_count is_safeable) (same_count is_open)
    where
      the_counts : ℕ → ℕ → ℕ → SafeCounts
      the_counts x y z = record { safeable = x; unshown = y; near = z }

  pub same_report : safeable_text m a f ≡ safeable_text m a g
  unfolding safeable_text
  same_report = ap₂ (λ (ys : List ℕ) (n : SafeCounts). ys ++ counts_text n) same_text same_counts

pub one_report : (m : ModelData) (a : AdvicesData) (counts counts' : SafeCounts) (text text' : List ℕ) → IsModel m → IsSafeableReport m a counts text → IsSafeableReport m a counts' text' → (counts ≡ counts') × (text ≡ text')
one_report m a counts counts' text text' is r s = (
  r.counted ∙ same_counts m a is r.found s.found r.outlooks s.outlooks ∙ sym s.counted,
  r.printed ∙ same_report m a is r.found s.found r.outlooks s.outlooks ∙ sym s.printed,
)

pub some_report : (m : ModelData) (a : AdvicesData) → IsModel m → (counts : SafeCounts) × (text : List ℕ) × IsSafeableReport m a counts text
some_report m a is =
    let some = some_outlooks m a is in
    (counts_of m a some.0, safeable_text m a some.0, record { found = some.0; outlooks = some.1; counted = refl; printed = refl })

-- what is begun of a report is a part of it
pub begun_report : (m : ModelData) (a : AdvicesData) (old new : Option (List ℕ)) (counts : SafeCounts) (text : List ℕ) → IsModel m → IsSafeableBegun m a old new → IsSafeableReport m a counts text → AppendsPart old new text
begun_report m a old new counts text is begun report =
    subst (AppendsPart old new) (same_report m a is begun.found report.found begun.outlooks report.outlooks ∙ sym report.printed) begun.part
