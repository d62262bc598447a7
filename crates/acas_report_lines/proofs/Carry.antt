-- From the items of one plan to those of another.
use Rattle.std.proofs.Common.{◌≡◌, ℕ, ◌+◌, ◌<◌, ◌^◌, ◌==◌, ◌&&◌, not, Bool, true, false, List, [], ◌∷◌, length, Option, refl, sym, ◌∙◌, ap, subst, arith, count_by, cond}
use Rattle.std.proofs.lemmas.List.{append-nil}
use Rattle.std.specs.List.{flat_map}
use Rattle.acas_spec.specs.Model.{ModelData}
use Rattle.acas_cells.specs.Cells.{Cell}
use Rattle.acas_cells.specs.Corners.{under}
use Rattle.acas_rulings.specs.Rulings.{IsRulingOfCell}
use Rattle.acas_cells.specs.declared.name.CellName.{CellName}
use Rattle.acas_report_lines.specs.Report.{AreRuled}
use Rattle.acas_report_lines.specs.Plan.{Progress, Wrote, Broke, Room, names_in, lines_in, clear_in, total}
use Rattle.acas_report_lines.specs.declared.counts.Counts.{Counts}
use Rattle.acas_report_lines.specs.declared.counts.Which.{Which}
use Rattle.acas_report_lines.proofs.Counting.{count_by-never}
use Rattle.acas_report_lines.proofs.OneLine.{if_so}
use Rattle.acas_report_lines.specs.Plans.{plan_by, chosen}

-- ---- other items

-- the same cells under an advice, for other items
pub carry : {X Y : Type 0} (m : ModelData) (which : Which) (nx : X → List CellName) (zx : X → Bool) (ny : Y → List CellName) (zy : Y → Bool) (xs : List X) (ys : List Y) (p q : Progress) → flat_map nx xs ≡ flat_map ny ys → count_by zx xs ≡ count_by zy ys → Wrote (plan_by m which nx zx) p q xs → Wrote (plan_by m which ny zy) p q ys
unfolding names_in lines_in clear_in
carry m which nx zx ny zy xs ys p q names clears wrote = record {
  ruled = wrote.ruled;
  rulings = subst (λ ns. AreRuled (IsRulingOfCell m) ns wrote.ruled) names wrote.rulings;
  printed = wrote.printed;
  certified = wrote.certified;
  reported = wrote.reported;
  clear = wrote.clear ∙ ap (λ n. p.counts.clear + n) clears;
}

pub carry_broke : {X Y : Type 0} (m : ModelData) (which : Which) (nx : X → List CellName) (zx : X → Bool) (ny : Y → List CellName) (zy : Y → Bool) (xs : List X) (ys : List Y) (old : Option (List ℕ)) (waited : List ℕ) (new : Option (List ℕ)) → flat_map nx xs ≡ flat_map ny ys → Broke (plan_by m which nx zx) old waited new xs → Broke (plan_by m which ny zy) old waited new ys
unfolding names_in lines_in
carry_broke m which nx zx ny zy xs ys old waited new names broke = record {
  first = broke.first;
  rest = broke.rest;
  order = broke.order ∙ names;
  ruled = broke.ruled;
  rulings = broke.rulings;
  part = broke.part;
}

-- ---- advices

never : (b q : Bool) (names : List CellName) → q ≡ false → cond (not b && q) names [] ≡ []
never true q names e = refl
never false q names e = ap (λ v. cond v names []) e

-- an advice that is chosen, and one that is not
pub chosen_yes : (cell : Cell) (set : ℕ → Bool) (a : ℕ) → (a == 0) ≡ false → set a ≡ true → flat_map (chosen cell set) (a ∷ []) ≡ under cell a ∷ []
chosen_yes cell set a ne has =
    append-nil (chosen cell set a)
    ∙ ap (λ q. cond (not q && set a) (under cell a ∷ []) []) ne
    ∙ ap (λ q. cond q (under cell a ∷ []) []) has

pub chosen_not : (cell : Cell) (set : ℕ → Bool) (a : ℕ) → set a ≡ false → flat_map (chosen cell set) (a ∷ []) ≡ []
chosen_not cell set a has = append-nil (chosen cell set a) ∙ never (a == 0) (set a) (under cell a ∷ []) has

pub chosen_clear : (cell : Cell) (set : ℕ → Bool) (a : ℕ) → (a == 0) ≡ true → flat_map (chosen cell set) (a ∷ []) ≡ []
chosen_clear cell set a is = append-nil (chosen cell set a) ∙ ap (λ q. cond (not q && set a) (under cell a ∷ []) []) is

-- one cell under an advice can be counted
pub room_name : {X : Type 0} (m : ModelData) (which : Which) (names : X → List CellName) (is_clear : X → Bool) (xs : List X) (name : CellName) (counts : Counts) → flat_map names xs ≡ name ∷ [] → Room (plan_by m which names is_clear) counts xs → total counts + 1 < 2 ^ 64
unfolding names_in
room_name m which names is_clear xs name counts one room = omega (arith, room.fits, ap length one)

-- a cell's advices can be counted, once the cell is
pub room_cell : (m : ModelData) (which : Which) (g : ℕ → List CellName) (xs : List ℕ) (names : Cell → List CellName) (is_clear : Cell → Bool) (cell : Cell) (old new : Counts) → flat_map g xs ≡ names cell → new.certified ≡ old.certified → new.reported ≡ old.reported → new.clear ≡ cond (is_clear cell) (old.clear + 1) old.clear → Room (plan_by m which names is_clear) old (cell ∷ []) → Room (plan_by m which g (λ a. false)) new xs
unfolding names_in clear_in
room_cell m which g xs names is_clear cell old new same cert rep clr room = record {
  fits = omega (
    arith,
    room.fits,
    cert,
    rep,
    if_so (is_clear cell) old.clear new.clear clr,
    count_by-never xs,
    ap length same,
    ap length (append-nil (names cell)),
  );
}

-- a clear cell can be counted
pub room_clear : (m : ModelData) (which : Which) (names : Cell → List CellName) (is_clear : Cell → Bool) (cell : Cell) (counts : Counts) → Room (plan_by m which names is_clear) counts (cell ∷ []) → is_clear cell ≡ true → total counts + 1 < 2 ^ 64
unfolding clear_in
room_clear m which names is_clear cell counts room is = omega (arith, room.fits, ap (λ b. 0 + cond b 1 0) is)

-- a cell that was counted, and then its advices
pub wrote_cell : (m : ModelData) (which : Which) (g : ℕ → List CellName) (xs : List ℕ) (names : Cell → List CellName) (is_clear : Cell → Bool) (cell : Cell) (p q r : Progress) → flat_map g xs ≡ names cell → q.written ≡ p.written → q.waits ≡ p.waits → q.counts.certified ≡ p.counts.certified → q.counts.reported ≡ p.counts.reported → q.counts.clear ≡ cond (is_clear cell) (p.counts.clear + 1) p.counts.clear → Wrote (plan_by m which g (λ a. false)) q r xs → Wrote (plan_by m which names is_clear) p r (cell ∷ [])
unfolding names_in lines_in clear_in
wrote_cell m which g xs names is_clear cell p q r same written waits cert rep clr wrote = record {
  ruled = wrote.ruled;
  rulings = subst (λ ns. AreRuled (IsRulingOfCell m) ns wrote.ruled) (same ∙ sym (append-nil (names cell))) wrote.rulings;
  printed = rw (← written, ← waits) wrote.printed;
  certified = omega (arith, wrote.certified, cert);
  reported = omega (arith, wrote.reported, rep);
  clear = omega (arith, wrote.clear, count_by-never xs, if_so (is_clear cell) p.counts.clear q.counts.clear clr);
}
