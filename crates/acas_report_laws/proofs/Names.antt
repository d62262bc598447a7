-- The lines of cells and boxes, read back.
use Rattle.std.proofs.Common.{◌≡◌, ℕ, ◌<◌, ◌≤◌, ◌⊎◌, inl, inr, ◌^◌, true, false, List, [], ◌∷◌, ◌++◌, codes, length, map, get_or, pos, refl, ap, sym, ◌∙◌, append_assoc, arith}
use Rattle.std.proofs.lemmas.List.{append_cancel_left, get_or-map}
use Rattle.std.proofs.Math.ListN.{length-map}
use Rattle.acas_units.specs.declared.limits.TheConstants.{LEAST_NAME_BYTES, GREATEST_NAME_BYTES}
use Rattle.acas_spec.specs.declared.parts.Advisory.{Advisory}
use Rattle.std.proofs.lemmas.Bool.{and_parts, le-ltb, cases_order}
use Rattle.std.proofs.lemmas.Bool.Decides.{nat_tests}
use Rattle.std.specs.List.{list_all}
use Rattle.std.specs.Fmt.{decimal}
use Rattle.acas_spec.specs.Limits.{IsModel, is_from, is_name_byte}
use Rattle.acas_spec.specs.Model.{ModelData, advisory_at}
use Rattle.acas_cells.specs.declared.name.CellName.{CellName}
use Rattle.acas_rulings.specs.declared.ruling.Ruling.{Ruling}
use Rattle.acas_report_lines.specs.Text.{field, ruling_text, cell_text, cell_line, box_text, line_of_box}
use Rattle.acas_report_laws.specs.Told.{IsNameOf}
use Rattle.acas_report_laws.proofs.Separators.{Lacks, Stops, less, peel}
use Rattle.acas_report_laws.proofs.Numerals.{decimal_bytes, decimal_gives}
use Rattle.acas_report_laws.proofs.Fields.{AreTexts, Same, ends, no_end, ruling_texts}

name_byte : (b : ℕ) → is_name_byte b ≡ true → 33 ≤ b
name_byte b e = grind (arith, nat_tests)

all_lack : (text : List ℕ) → list_all is_name_byte text ≡ true → Lacks ends text
all_lack [] e = tt
all_lack (b ∷ text) e =
    let parts = and_parts (is_name_byte b) (list_all is_name_byte text) e in
    (le-ltb b 33 (name_byte b parts.0), all_lack text parts.1)

name_lacks : (m : ModelData) (p : ℕ) → IsModel m → p < m.grid.advisories → Lacks ends (advisory_at m p).name
name_lacks m p model l =
    let name = (advisory_at m p).name in
    all_lack name (and_parts (is_from LEAST_NAME_BYTES GREATEST_NAME_BYTES (length name)) (list_all is_name_byte name) (model.advisories p l).name).1

-- a name is that of one advisory
same_advisory : (m : ModelData) (p q : ℕ) → IsModel m → p < m.grid.advisories → q < m.grid.advisories → (advisory_at m p).name ≡ (advisory_at m q).name → p ≡ q
same_advisory m p q model lp lq e = by (cases_order p q)
  where
    there : (a : ℕ) → a < m.grid.advisories → get_or (map (λ a. a.name) m.advisories) a [] ≡ (advisory_at m a).name
    there a l = get_or-map (λ a. a.name) m.advisories a (record { name = []; lo = pos 0; hi = pos 0 }) [] (omega (arith, model.advisory_count))

    same : get_or (map (λ a. a.name) m.advisories) p [] ≡ get_or (map (λ a. a.name) m.advisories) q []
    same = there p lp ∙ e ∙ sym (there q lq)

    within : (a : ℕ) → a < m.grid.advisories → a < length (map (λ a. a.name) m.advisories)
    within a l = omega (arith, length-map m.advisories (λ (a : Advisory). a.name), model.advisory_count)

    by : (p ≡ q) ⊎ ((p < q) ⊎ (q < p)) → p ≡ q
    by (inl h) = h
    by (inr (inl l)) = absurd (model.names.apart p q l (within q lq) same)
    by (inr (inr l)) = absurd (model.names.apart q p l (within p lp) (sym same))

-- what is read of a line: of what it is, its ruling, and what follows it
pub record IsRead {N R : Type 0} (SameAs : R → R → Type 0) (x y : N) (r q : R) (s t : List ℕ) : Type 0 where
  pub name : x ≡ y
  pub ruling : SameAs r q
  pub rest : s ≡ t

read_field : (a b s t : List ℕ) → Lacks ends a → Lacks ends b → Stops ends s → Stops ends t → field a ++ s ≡ field b ++ t → (a ≡ b) × (s ≡ t)
unfolding field
read_field a b s t la lb ss st e = peel ends a b s t la lb ss st (append_cancel_left (32 ∷ []) (a ++ s) (b ++ t) e)

stops_field : (a s : List ℕ) → Stops ends (field a ++ s)
unfolding field
stops_field a s = refl

read_number : (x y : ℕ) (s t : List ℕ) → x < 10 ^ 63 → Stops ends s → Stops ends t → field (decimal x) ++ s ≡ field (decimal y) ++ t → (x ≡ y) × (s ≡ t)
read_number x y s t small ss st e =
    let parts = read_field (decimal x) (decimal y) s t (lacks x) (lacks y) ss st e in
    (decimal_gives x y small parts.0, parts.1)
  where
    lacks : (n : ℕ) → Lacks ends (decimal n)
    lacks n = decimal_bytes (λ b. ends b ≡ false) no_end n

-- ---- cells

from_advice : ModelData → CellName → List ℕ → List ℕ
from_advice m x s = field (advisory_at m x.advice).name ++ s

from_k : ModelData → CellName → List ℕ → List ℕ
from_k m x s = field (decimal x.k) ++ from_advice m x s

from_j : ModelData → CellName → List ℕ → List ℕ
from_j m x s = field (decimal x.j) ++ from_k m x s

from_i : ModelData → CellName → List ℕ → List ℕ
from_i m x s = field (decimal x.i) ++ from_j m x s

from_present : ModelData → CellName → List ℕ → List ℕ
from_present m x s = field (advisory_at m x.present).name ++ from_i m x s

from_n : ModelData → CellName → List ℕ → List ℕ
from_n m x s = field (decimal x.n) ++ from_present m x s

cell_is : (m : ModelData) (x : CellName) (r : Ruling) (s : List ℕ) → cell_line m x r ++ s ≡ codes "cell" ++ from_n m x (ruling_text r ++ s)
unfolding cell_text from_n from_present from_i from_j from_k from_advice
cell_is m x r s = simp append_assoc

pub read_cell : (m : ModelData) (x y : CellName) (r q : Ruling) (s t : List ℕ) → IsModel m → IsNameOf m x → IsNameOf m y → cell_line m x r ++ s ≡ cell_line m y q ++ t → IsRead Same x y r q s t
unfolding from_n from_present from_i from_j from_k from_advice
read_cell m x y r q s t model nx ny e =
    let n = read_number x.n y.n (from_present m x (ruling_text r ++ s)) (from_present m y (ruling_text q ++ t)) (omega (arith, model.grid.horizon, nx.cell.n)) (stops_field _ _) (stops_field _ _)
    (append_cancel_left (codes "cell") (from_n m x (ruling_text r ++ s)) (from_n m y (ruling_text q ++ t)) (sym (cell_is m x r s) ∙ e ∙ cell_is m y q t)) in
    let present = name x.present y.present (from_i m x (ruling_text r ++ s)) (from_i m y (ruling_text q ++ t)) nx.cell.present ny.cell.present (stops_field _ _) (stops_field _ _) n.1 in
    let i = read_number x.i y.i (from_j m x (ruling_text r ++ s)) (from_j m y (ruling_text q ++ t)) (omega (arith, model.grid.altitudes.at_most, nx.cell.i)) (stops_field _ _) (stops_field _ _) present.1 in
    let j = read_number x.j y.j (from_k m x (ruling_text r ++ s)) (from_k m y (ruling_text q ++ t)) (omega (arith, model.grid.own_rates.at_most, nx.cell.j)) (stops_field _ _) (stops_field _ _) i.1 in
    let k = read_number x.k y.k (from_advice m x (ruling_text r ++ s)) (from_advice m y (ruling_text q ++ t)) (omega (arith, model.grid.intruder_rates.at_most, nx.cell.k)) (stops_field _ _) (stops_field _ _) j.1 in
    let advice = name x.advice y.advice (ruling_text r ++ s) (ruling_text q ++ t) nx.advice ny.advice (ruling_texts.stops r s) (ruling_texts.stops q t) k.1 in
    let ruling = ruling_texts.read r q s t advice.1 in
    record {
      name = λ w. record { n = n.0 w; present = present.0 w; i = i.0 w; j = j.0 w; k = k.0 w; advice = advice.0 w };
      ruling = ruling.0;
      rest = ruling.1;
    }
  where
    name : (a b : ℕ) (s t : List ℕ) → a < m.grid.advisories → b < m.grid.advisories → Stops ends s → Stops ends t → field (advisory_at m a).name ++ s ≡ field (advisory_at m b).name ++ t → (a ≡ b) × (s ≡ t)
    name a b s t la lb ss st e =
        let parts = read_field (advisory_at m a).name (advisory_at m b).name s t (name_lacks m a model la) (name_lacks m b model lb) ss st e in
        (same_advisory m a b model la lb parts.0, parts.1)

-- no cell's line begins as the last line does
pub cell_is_not_last : {A : Type 0} (m : ModelData) (x : CellName) (r : Ruling) (s t : List ℕ) → cell_line m x r ++ s ≡ codes "certified" ++ t → A
unfolding cell_text
cell_is_not_last m x r s t e = less 108 114 (omega arith) (ap (λ (l : List ℕ). get_or l 2 0) e)

-- ---- boxes

pub read_box : {R : Type 0} (SameAs : R → R → Type 0) (text : R → List ℕ) → AreTexts SameAs text → (x y : ℕ) (r q : R) (s t : List ℕ) → x < 10 ^ 63 → line_of_box text x r ++ s ≡ line_of_box text y q ++ t → IsRead SameAs x y r q s t
unfolding box_text
read_box SameAs text texts x y r q s t small e =
    let number = read_number x y (text r ++ s) (text q ++ t) small (texts.stops r s) (texts.stops q t)
    (append_cancel_left (codes "box") _ _ (sym (append_assoc (codes "box" ++ field (decimal x)) (text r) s) ∙ e ∙ append_assoc (codes "box" ++ field (decimal y)) (text q) t)) in
    let ruling = texts.read r q s t number.1 in
    record { name = number.0; ruling = ruling.0; rest = ruling.1 }

-- no box's line begins as the last line does
pub box_is_not_last : {A R : Type 0} (text : R → List ℕ) (x : ℕ) (r : R) (s t : List ℕ) → line_of_box text x r ++ s ≡ codes "certified" ++ t → A
unfolding box_text
box_is_not_last text x r s t e = less 98 99 (omega arith) (ap (λ (l : List ℕ). get_or l 0 0) e)
