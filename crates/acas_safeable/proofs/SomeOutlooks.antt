-- What is found of all cells.
use Rattle.std.proofs.Common.{◌≡◌, ℕ, ◌+◌, ◌<◌, ◌⊎◌, inl, inr, ◌&&◌, true, false, Bool, nat_lt, pos, length, refl, ap, subst, arith}
use Rattle.std.specs.List.{All}
use Rattle.std.proofs.lemmas.Bool.{and_parts, cases_lt}
use Rattle.std.proofs.lemmas.Bool.Decides.{nat_tests}
use Rattle.std.proofs.lemmas.List.Elements.{All-filter, All-from_get_or, All-get_or, All-map}
use Rattle.acas_spec.specs.Limits.{IsModel}
use Rattle.acas_spec.specs.Model.{ModelData, choices_at}
use Rattle.acas_base.specs.Advices.{AdvicesData}
use Rattle.acas_cells.specs.Cells.{Cell, IsCellOf}
use Rattle.acas_cells.specs.Corners.{is_clear_cell}
use Rattle.acas_process.specs.Cost.{advisories_of}
use Rattle.acas_safeable.specs.Outlooks.{AreOutlooks, IsOutlook, candidates, is_looked_at}
use Rattle.acas_safeable.specs.Walk.{IsNamed}
use Rattle.acas_safeable.specs.declared.outlook.Outlook.{Outlook}
use Rattle.acas_safeable.specs.declared.outlook.Outlook.TheVariants.{Safeable, Unshown}
use Rattle.acas_safeable.proofs.Shown.{outlook-same, outlook-some}

-- ---- a cell that is looked at

is_later : (n : ℕ) → nat_lt 0 n ≡ true → 0 < n
is_later n h = grind (arith, nat_tests)

pub looked_later : (m : ModelData) (a : AdvicesData) (c : Cell) → is_looked_at m a c ≡ true → 0 < c.n
looked_later m a c looked = is_later c.n (and_parts (is_clear_cell m a c) (nat_lt 0 c.n) looked).1

pub looked_both : (m : ModelData) (a : AdvicesData) (c : Cell) → is_clear_cell m a c ≡ true → 0 < c.n → is_looked_at m a c ≡ true
looked_both m a c clear later = both (is_clear_cell m a c) c.n clear later
  where
    both : (b : Bool) (n : ℕ) → b ≡ true → 0 < n → (b && nat_lt 0 n) ≡ true
    both true n h later = grind (arith, nat_tests)
    both false n h later = h

-- one that is not
pub not_clear : (m : ModelData) (a : AdvicesData) (c : Cell) → is_clear_cell m a c ≡ false → is_looked_at m a c ≡ false
not_clear m a c h = ap (λ (b : Bool). b && nat_lt 0 c.n) h

pub not_later : (m : ModelData) (a : AdvicesData) (c : Cell) → c.n ≡ 0 → is_looked_at m a c ≡ false
not_later m a c h = none (is_clear_cell m a c) c.n h
  where
    none : (b : Bool) (n : ℕ) → n ≡ 0 → (b && nat_lt 0 n) ≡ false
    none true n h = grind (arith, nat_tests)
    none false n h = refl

-- an outlook of it is what is found of it
pub found_is : (m : ModelData) (a : AdvicesData) (found : Cell → Outlook) (c : Cell) (outlook : Outlook) → IsModel m → IsCellOf m c → is_looked_at m a c ≡ true → IsOutlook m c outlook → AreOutlooks m a found → outlook ≡ found c
found_is m a found c outlook is cell looked here are =
    outlook-same m c is (looked_later m a c looked) outlook (found c) here (are.each c cell looked)

-- its advisory is one of the model's
candidates_known : (m : ModelData) → IsModel m → All (λ a. a < m.grid.advisories) (candidates m)
candidates_known m is =
    let some : 0 < m.grid.advisories = omega (arith, is.grid.some_advisories) in
    All-filter _ (λ a. a < m.grid.advisories) (advisories_of (choices_at m 0))
    (All-map (λ a. a < m.grid.advisories) (λ c. c.advisory) (choices_at m 0)
    (All-from_get_or (λ c. c.advisory < m.grid.advisories) (choices_at m 0) (record { advisory = 0; cost = pos 0 }) (λ place within. ((is.choices 0 some).each place within).advisory)))

pub outlook_named : (m : ModelData) (c : Cell) (outlook : Outlook) → IsModel m → IsOutlook m c outlook → IsNamed m outlook
outlook_named m c (Safeable advisory) is h =
    let first = h.0 in
    subst (λ (a : ℕ). a < m.grid.advisories) first.stands (All-get_or (λ a. a < m.grid.advisories) (candidates m) first.place 0 first.among (candidates_known m is))
outlook_named m c Unshown is h = tt

-- ---- each cell

-- it holds, or it does not
abbrev Decided : Type 0 → Type 0
Decided P = P ⊎ (P → ⊥)

decided_lt : (x y : ℕ) → Decided (x < y)
decided_lt x y = elim (cases_lt x y) [ inl less ↦ inl less | inr past ↦ inr (λ less. omega (arith, past, less)) ]

decided_both : {P Q : Type 0} → Decided P → Decided Q → Decided (P × Q)
decided_both (inl p) (inl q) = inl (p, q)
decided_both (inl p) (inr never) = inr (λ both. never both.1)
decided_both (inr never) q = inr (λ both. never both.0)

decided_cell : (m : ModelData) (c : Cell) → Decided (IsCellOf m c × (0 < c.n))
decided_cell m c =
    elim (decided_both (decided_both (decided_lt c.n m.grid.horizon) (decided_lt c.present m.grid.advisories))
    (decided_both (decided_both (decided_lt (c.i + 1) (length m.grid.h)) (decided_lt (c.j + 1) (length m.grid.v0))) (decided_both (decided_lt (c.k + 1) (length m.grid.v1)) (decided_lt 0 c.n)))) [
      | inl all ↦ inl (record { n = all.0.0; present = all.0.1; i = all.1.0.0; j = all.1.0.1; k = all.1.1.0 }, all.1.1.1)
      | inr never ↦ inr (λ both. let is = both.0 in never ((is.n, is.present), ((is.i, is.j), (is.k, both.1))))
    ]

outlook_at : (m : ModelData) (c : Cell) → IsModel m → (outlook : Outlook) × (IsCellOf m c → 0 < c.n → IsOutlook m c outlook)
outlook_at m c is =
    elim (decided_cell m c) [
      | inl here ↦ let some = outlook-some m c is here.1 here.0 in (some.0, λ cell later. some.1)
      | inr never ↦ (Unshown, λ cell later. absurd (never (cell, later)))
    ]

-- something is found of each
pub some_outlooks : (m : ModelData) (a : AdvicesData) → IsModel m → (found : Cell → Outlook) × AreOutlooks m a found
some_outlooks m a is = (λ c. (outlook_at m c is).0, record { each = λ c cell looked. (outlook_at m c is).1 cell (looked_later m a c looked) })
