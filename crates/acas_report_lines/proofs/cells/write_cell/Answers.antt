use Rattle.std.proofs.Common.{◌≡◌, ◌==◌, ◌&&◌, ◌+◌, ◌<◌, ℕ, Bool, true, false, not, cond, [], ◌∷◌, sym, ◌∙◌, ap, arith, refl}
use Rattle.std.proofs.lemmas.Bool.Decides.{nat_tests}
use Rattle.std.specs.List.{flat_map}
use Rattle.std.proofs.lemmas.List.{append-nil}
use Rattle.acas_spec.specs.Model.{GridData, ModelData}
use Rattle.acas_base.specs.Advices.{AdvicesData}
use Rattle.acas_outside.proofs.Appended.{on_err_always}
use Rattle.acas_cells.specs.Cells.{Cell, below, cell_at}
use Rattle.acas_cells.specs.Corners.{under, names_at, is_advised, is_at_corner, is_clear_cell}
use Rattle.acas_cells.specs.Sets.{holds}
use Rattle.acas_cells.specs.declared.set.AdviceSet.{AdviceSet}
use Rattle.acas_cells.proofs.Exact.{clear_by_set, clear_names}
use Rattle.acas_report_lines.proofs.Below.{names_eq}
use Rattle.acas_report_lines.proofs.Steps.{wrote_none, wrote_more, wrote_all, broke_more, room_left}
use Rattle.acas_report_lines.specs.Plans.{chosen, place_cell, set_plan}
use Rattle.acas_report_lines.proofs.Carry.{carry, carry_broke, chosen_clear, chosen_not, chosen_yes, room_cell, room_clear, room_name, wrote_cell}
use Rattle.acas_report_lines.proofs.cells.write_cell.Goals as goal

-- an advice that is not clear is chosen once it is asked twice
twice : (x y : Bool) → (not x && (not x && y)) ≡ (not x && y)
twice true y = refl
twice false y = refl

-- the advices that are chosen are those that are tabled at the corners
chosen_are : (m : ModelData) (a : AdvicesData) (cell : Cell) (set : AdviceSet) → ((b : ℕ) → holds set b ≡ is_advised m a cell b) → flat_map (chosen cell (holds set)) (below m.grid.advisories (λ b. b ∷ [])) ≡ names_at m a cell
chosen_are m a cell set exact =
    names_eq m.grid.advisories (chosen cell (holds set)) _
    (λ b. ap (λ q. cond (not (b == 0) && q) (under cell b ∷ []) []) (exact b) ∙ ap (λ q. cond q (under cell b ∷ []) []) (twice (b == 0) (is_at_corner m a cell b)))

pub count_cell-requires : goal.count_cell-requires
count_cell-requires g c is =
    let at = c.args.at in
    let m = c.args.audit.now.model.now in
    let a = c.args.audit.now.advices.now in
    let cell = cell_at at.n at.present at.i at.j at.k in
    room_clear m c.args.audit.now.which (names_at m a) (is_clear_cell m a) cell _ c.requires.room
    (sym (clear_by_set m a cell c.advised-set.result c.advised-set.ensures) ∙ sym c.has_no_advisory-clear.ensures ∙ is)

pub returns-then-clear-clause-ok : goal.returns-then-clear-clause-ok
returns-then-clear-clause-ok g c =
    let at = c.args.at in
    let m = c.args.audit.now.model.now in
    let a = c.args.audit.now.advices.now in
    let cell = cell_at at.n at.present at.i at.j at.k in
    let clear = c.has_no_advisory-clear.ensures ∙ clear_by_set m a cell c.advised-set.result c.advised-set.ensures in
    let is : is_clear_cell m a cell ≡ true = sym clear ∙ c.if-clear.true in
    wrote_cell m c.args.audit.now.which (chosen cell (holds c.advised-set.result)) [] (names_at m a) (is_clear_cell m a) cell _ _ _
    (sym (clear_names m a cell is)) refl refl
    c.count_cell.ensures.certified c.count_cell.ensures.reported
    (c.count_cell.ensures.clear ∙ ap (λ b. cond b (c.args.pen.now.counts.clear + 1) c.args.pen.now.counts.clear) clear)
    (wrote_none _ _)

pub loop-advice-init : goal.loop-advice-init
loop-advice-init g c = record { wrote = wrote_none _ _; frame = grind arith }

pub loop-advice-preserved-then-advice-eq0 : goal.loop-advice-preserved-then-advice-eq0
loop-advice-preserved-then-advice-eq0 g c =
    let is_chosen = chosen (place_cell c.args.at) (holds c.advised-set.result) in
    let z : ℕ → Bool = λ a. false in
    let is : (c.loop-advice.advice == 0) ≡ true = ap (λ a. a == 0) c.if-advice-eq0.true in
    record {
      wrote = wrote_more (set_plan c.args.audit.now c.args.at c.advised-set.result) (λ a. a ∷ []) c.loop-advice.advice _ _ _ c.loop-advice.invariant.wrote
          (carry c.args.audit.now.model.now c.args.audit.now.which is_chosen z is_chosen z [] (c.loop-advice.advice ∷ []) _ _
          (sym (chosen_clear (place_cell c.args.at) (holds c.advised-set.result) c.loop-advice.advice is)) refl (wrote_none _ _));
      frame = grind arith;
    }

pub loop-advice-preserved-then-not-has : goal.loop-advice-preserved-then-not-has
loop-advice-preserved-then-not-has g c =
    let is_chosen = chosen (place_cell c.args.at) (holds c.advised-set.result) in
    let z : ℕ → Bool = λ a. false in
    let not_in : holds c.advised-set.result c.loop-advice.advice ≡ false = sym c.has.ensures ∙ c.if-not-has.true in
    record {
      wrote = wrote_more (set_plan c.args.audit.now c.args.at c.advised-set.result) (λ a. a ∷ []) c.loop-advice.advice _ _ _ c.loop-advice.invariant.wrote
          (carry c.args.audit.now.model.now c.args.audit.now.which is_chosen z is_chosen z [] (c.loop-advice.advice ∷ []) _ _
          (sym (chosen_not (place_cell c.args.at) (holds c.advised-set.result) c.loop-advice.advice not_in)) refl (wrote_none _ _));
      frame = grind arith;
    }

pub loop-advice-preserved : goal.loop-advice-preserved
loop-advice-preserved g c =
    let ne : (c.loop-advice.advice == 0) ≡ false = grind (arith, nat_tests) in
    let is_in : holds c.advised-set.result c.loop-advice.advice ≡ true = sym c.has.ensures ∙ c.if-not-has.false in
    record {
      wrote = wrote_more (set_plan c.args.audit.now c.args.at c.advised-set.result) (λ a. a ∷ []) c.loop-advice.advice _ _ _ c.loop-advice.invariant.wrote
          (carry c.args.audit.now.model.now c.args.audit.now.which (λ n. n ∷ []) (λ n. false) (chosen (place_cell c.args.at) (holds c.advised-set.result)) (λ a. false)
          (under (place_cell c.args.at) c.loop-advice.advice ∷ []) (c.loop-advice.advice ∷ []) _ _
          (sym (chosen_yes (place_cell c.args.at) (holds c.advised-set.result) c.loop-advice.advice ne is_in)) refl c.in_ok-write_name.ensures.ok);
      frame = grind arith;
    }

pub write_name-requires-clause-room : goal.write_name-requires-clause-room
write_name-requires-clause-room g c =
    let m = c.args.audit.now.model.now in
    let which = c.args.audit.now.which in
    let cell = place_cell c.args.at in
    let set = holds c.advised-set.result in
    let same : c.behind-audit.inside.advisories ≡ m.grid.advisories = ap (λ (g : GridData). g.advisories) (c.behind-audit.view_is ∙ c.grid.ensures.value) in
    let here : c.loop-advice.advice < m.grid.advisories = omega arith in
    let ne : (c.loop-advice.advice == 0) ≡ false = grind (arith, nat_tests) in
    let is_in : set c.loop-advice.advice ≡ true = sym c.has.ensures ∙ c.if-not-has.false in
    let clear = c.has_no_advisory-clear.ensures ∙ clear_by_set m c.args.audit.now.advices.now cell c.advised-set.result c.advised-set.ensures in
    let room = room_cell m which (chosen cell set) (below m.grid.advisories (λ b. b ∷ [])) (names_at m c.args.audit.now.advices.now) (is_clear_cell m c.args.audit.now.advices.now) cell _ _
    (chosen_are m c.args.audit.now.advices.now cell c.advised-set.result c.advised-set.ensures)
    c.count_cell.ensures.certified c.count_cell.ensures.reported
    (c.count_cell.ensures.clear ∙ ap (λ b. cond b (c.args.pen.now.counts.clear + 1) c.args.pen.now.counts.clear) clear)
    c.requires.room
    in
    room_name m which _ _ (c.loop-advice.advice ∷ []) (under cell c.loop-advice.advice) _ (chosen_yes cell set c.loop-advice.advice ne is_in)
    (room_left (set_plan c.args.audit.now c.args.at c.advised-set.result) (λ a. a ∷ []) m.grid.advisories c.loop-advice.advice _ _ here room c.loop-advice.invariant.wrote)

pub returns-clause-ok : goal.returns-clause-ok
returns-clause-ok g c =
    let m = c.args.audit.now.model.now in
    let a = c.args.audit.now.advices.now in
    let cell = place_cell c.args.at in
    let set = holds c.advised-set.result in
    let same : c.behind-audit.inside.advisories ≡ m.grid.advisories = ap (λ (g : GridData). g.advisories) (c.behind-audit.view_is ∙ c.grid.ensures.value) in
    let ends : c.loop-advice.advice ≡ m.grid.advisories = omega (arith, c.loop-advice-test.false, c.loop-advice.auto.advice-end) in
    let clear = c.has_no_advisory-clear.ensures ∙ clear_by_set m a cell c.advised-set.result c.advised-set.ensures in
    wrote_cell m c.args.audit.now.which (chosen cell set) (below m.grid.advisories (λ b. b ∷ [])) (names_at m a) (is_clear_cell m a) cell _ _ _
    (chosen_are m a cell c.advised-set.result c.advised-set.ensures) refl refl
    c.count_cell.ensures.certified c.count_cell.ensures.reported
    (c.count_cell.ensures.clear ∙ ap (λ b. cond b (c.args.pen.now.counts.clear + 1) c.args.pen.now.counts.clear) clear)
    (wrote_all (set_plan c.args.audit.now c.args.at c.advised-set.result) (λ b. b ∷ []) m.grid.advisories c.loop-advice.advice _ _ ends c.loop-advice.invariant.wrote)

pub returns-in_err-write_name-clause-err : goal.returns-in_err-write_name-clause-err
returns-in_err-write_name-clause-err g c =
    let m = c.args.audit.now.model.now in
    let a = c.args.audit.now.advices.now in
    let which = c.args.audit.now.which in
    let cell = place_cell c.args.at in
    let set = holds c.advised-set.result in
    let same : c.behind-audit.inside.advisories ≡ m.grid.advisories = ap (λ (g : GridData). g.advisories) (c.behind-audit.view_is ∙ c.grid.ensures.value) in
    let here : c.loop-advice.advice < m.grid.advisories = omega arith in
    let ne : (c.loop-advice.advice == 0) ≡ false = grind (arith, nat_tests) in
    let is_in : set c.loop-advice.advice ≡ true = sym c.has.ensures ∙ c.if-not-has.false in
    let names : flat_map (chosen cell set) (below m.grid.advisories (λ b. b ∷ [])) ≡ flat_map (names_at m a) (cell ∷ []) =
    chosen_are m a cell c.advised-set.result c.advised-set.ensures ∙ sym (append-nil (names_at m a cell)) in
    let one = carry_broke m which (λ n. n ∷ []) (λ n. false) (chosen cell set) (λ a. false) (under cell c.loop-advice.advice ∷ []) (c.loop-advice.advice ∷ []) _ _ _
    (sym (chosen_yes cell set c.loop-advice.advice ne is_in)) c.in_err-write_name.ensures.err
    in
    let all = broke_more (set_plan c.args.audit.now c.args.at c.advised-set.result) (λ a. a ∷ []) m.grid.advisories c.loop-advice.advice _ _ _ here c.loop-advice.invariant.wrote one in
    on_err_always _ (carry_broke m which (chosen cell set) (λ b. false) (names_at m a) (is_clear_cell m a) (below m.grid.advisories (λ b. b ∷ [])) (cell ∷ []) _ _ _ names all)
