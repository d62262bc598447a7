-- A table whose lines are printed layer by layer as a sweep goes.
use Rattle.std.proofs.Common.{◌≡◌, ℕ, zero, suc, ◌<◌, List, ◌++◌, get_or, refl, sym, subst, ap, ◌∙◌, arith}
use Rattle.std.proofs.lemmas.List.FromFn.{get_or-map-range_with_len}
use Rattle.acas_spec.specs.Model.{ModelData, states}
use Rattle.acas_spec.specs.Table.{Table}
use Rattle.acas_grid.specs.States.{state_present, state_vertex}
use Rattle.acas_units.specs.declared.pair.Pair.{Pair}
use Rattle.acas_outside.specs.Bytes.{AppendsPart}
use Rattle.acas_outside.specs.Counts.{Rose}
use Rattle.acas_outside.specs.Frame.{Emits}
use Rattle.acas_outside.specs.declared.sink.Sink.{Ghosts as SinkMeanings}
use Rattle.acas_outside.specs.Printing.{Prints, below}
use Rattle.acas_outside.proofs.PrintedPieces.{part_of_below, prints_both, prints_nothing}
use Rattle.acas_process.specs.Compiled.{compiled}
use Rattle.acas_means.specs.Layer.{no_pair, pair_at}
use Rattle.acas_sweep.specs.Handed.{AddsBelow, CutBelow, compiled_layer, state_advice, state_pair}
use Rattle.acas_table_rows.specs.LineRows.{AddsLines, CutsLines}
use Rattle.acas_table_rows.specs.ValuesText.{entry_line, layer_lines, listed_line, listed_lines, state_line}
use Rattle.acas_table_rows.specs.declared.line_rows.LineRows.{LineRows}

-- ---- the lines of a layer

below-same : (f g : ℕ → List ℕ) (n : ℕ) → ((i : ℕ) → i < n → f i ≡ g i) → below n f ≡ below n g
below-same f g zero same = refl
below-same f g (suc n) same =
    ap (λ (l : List ℕ). l ++ f n) (below-same f g n (λ i inside. same i (omega (arith, inside)))) ∙ ap (λ (l : List ℕ). below n g ++ l) (same n (omega arith))

line_of_compiled : (m : ModelData) (n s : ℕ) → s < states m.grid → listed_line m (compiled_layer m n) s ≡ state_line m (compiled m) n s
line_of_compiled m n s inside =
    let t : Table = compiled m in
    let all : ℕ = states m.grid in
    let line = λ (p : Pair) (advice : ℕ). entry_line m n (state_present m.grid s) (state_vertex m.grid s) p.lower p.upper advice in
    let pair : pair_at (compiled_layer m n).pairs s ≡ state_pair m t n s = get_or-map-range_with_len (state_pair m t n) 0 all s s no_pair inside (omega arith) in
    let advice : get_or (compiled_layer m n).advice s 0 ≡ state_advice m t n s = get_or-map-range_with_len (state_advice m t n) 0 all s s 0 inside (omega arith) in
    ap (λ (p : Pair). line p (get_or (compiled_layer m n).advice s 0)) pair ∙ ap (line (state_pair m t n s)) advice

lines_of_compiled : (m : ModelData) (n : ℕ) → listed_lines m (compiled_layer m n) ≡ layer_lines m (compiled m) n
lines_of_compiled m n = below-same (listed_line m (compiled_layer m n)) (state_line m (compiled m) n) (states m.grid) (line_of_compiled m n)

-- ---- the layers of a sweep, one after the other

module _ {O : Type 0} (o : SinkMeanings O) (m : ModelData) (first : LineRows O) where
  -- the rows have printed the first n layers
  record HasPrinted (n : ℕ) (rows : LineRows O) : Type 0 where
    same_pen : first.pen.ghost_name ≡ rows.pen.ghost_name
    same_out : first.out.ghost_name ≡ rows.out.ghost_name
    model : rows.model.now ≡ m
    printed : Prints (o.written first.out.now) (o.written rows.out.now) first.pen.now.buffer rows.pen.now.buffer (below n (layer_lines m (compiled m)))
    frame : Emits o first.out.now rows.out.now ⊥

  printed-below : (n : ℕ) (last : LineRows O) → first.model.now ≡ m → AddsBelow (AddsLines o) (compiled_layer m) first n last → HasPrinted n last
  printed-below zero last is same =
      let first_has : HasPrinted 0 first = record {
        same_pen = refl;
        same_out = refl;
        model = is;
        printed = prints_nothing (o.written first.out.now) first.pen.now.buffer;
        frame = record { faults = omega arith; fault = λ no. absurd no };
      } in
      subst (λ (rows : LineRows O). HasPrinted 0 rows) same first_has
  printed-below (suc n) last is (mid, below_n, added) =
      let so_far : HasPrinted n mid = printed-below n mid is below_n in
      let lines : listed_lines mid.model.now (compiled_layer m n) ≡ layer_lines m (compiled m) n =
      ap (λ (k : ModelData). listed_lines k (compiled_layer m n)) so_far.model ∙ lines_of_compiled m n in
      record {
        same_pen = so_far.same_pen ∙ sym added.same_pen;
        same_out = so_far.same_out ∙ sym added.same_out;
        model = added.model ∙ so_far.model;
        printed =
            prints_both (o.written first.out.now) (o.written mid.out.now) (o.written last.out.now) first.pen.now.buffer mid.pen.now.buffer last.pen.now.buffer (below n (layer_lines m (compiled m))) (layer_lines m (compiled m) n) so_far.printed
            (subst (λ (l : List ℕ). Prints (o.written mid.out.now) (o.written last.out.now) mid.pen.now.buffer last.pen.now.buffer l) lines added.printed);
        frame = record { faults = omega (arith, so_far.frame.faults, added.frame.faults); fault = λ no. absurd no };
      }

  -- what the output ends as, and what waits then, where all layers were added
  pub lines_added : (n : ℕ) (last : LineRows O) (end : O) (buffer : List ℕ) → first.model.now ≡ m → AddsBelow (AddsLines o) (compiled_layer m) first n last
      → (first.out.ghost_name ≡ last.out.ghost_name → end ≡ last.out.now) → (first.pen.ghost_name ≡ last.pen.ghost_name → buffer ≡ last.pen.now.buffer)
      → Prints (o.written first.out.now) (o.written end) first.pen.now.buffer buffer (below n (layer_lines m (compiled m)))
  lines_added n last end buffer is added ends waits =
      let has : HasPrinted n last = printed-below n last is added in
      subst (λ (w : List ℕ). Prints (o.written first.out.now) (o.written end) first.pen.now.buffer w (below n (layer_lines m (compiled m)))) (sym (waits has.same_pen))
      (subst (λ (x : O). Prints (o.written first.out.now) (o.written x) first.pen.now.buffer last.pen.now.buffer (below n (layer_lines m (compiled m)))) (sym (ends has.same_out)) has.printed)

  pub out_added : {A : Type 0} (n : ℕ) (last : LineRows O) (end : O) → first.model.now ≡ m → AddsBelow (AddsLines o) (compiled_layer m) first n last
      → (first.out.ghost_name ≡ last.out.ghost_name → end ≡ last.out.now) → (A → ⊥) → Emits o first.out.now end A
  out_added {A} n last end is added ends never =
      let has : HasPrinted n last = printed-below n last is added in
      let whole : Emits o first.out.now last.out.now A = record { faults = has.frame.faults; fault = λ failed. absurd (never failed) } in
      subst (λ (x : O). Emits o first.out.now x A) (sym (ends has.same_out)) whole

  -- and where one was cut
  pub lines_cut : (count : ℕ) (last : LineRows O) (end : O) → first.model.now ≡ m → CutBelow (AddsLines o) (compiled_layer m) (CutsLines o) first count last
      → (first.out.ghost_name ≡ last.out.ghost_name → end ≡ last.out.now) → AppendsPart (o.written first.out.now) (o.written end) (first.pen.now.buffer ++ below count (layer_lines m (compiled m)))
  lines_cut count last end is (n, within, mid, added, cut) ends =
      let has : HasPrinted n mid = printed-below n mid is added in
      let lines : listed_lines mid.model.now (compiled_layer m n) ≡ layer_lines m (compiled m) n =
      ap (λ (k : ModelData). listed_lines k (compiled_layer m n)) has.model ∙ lines_of_compiled m n in
      let part : AppendsPart (o.written mid.out.now) (o.written last.out.now) (mid.pen.now.buffer ++ layer_lines m (compiled m) n) =
      subst (λ (l : List ℕ). AppendsPart (o.written mid.out.now) (o.written last.out.now) (mid.pen.now.buffer ++ l)) lines cut.printed in
      subst (λ (x : O). AppendsPart (o.written first.out.now) (o.written x) (first.pen.now.buffer ++ below count (layer_lines m (compiled m)))) (sym (ends (has.same_out ∙ sym cut.same_out)))
      (part_of_below (o.written first.out.now) (o.written mid.out.now) (o.written last.out.now) first.pen.now.buffer mid.pen.now.buffer (layer_lines m (compiled m)) n count within has.printed part)

  pub out_cut : {A : Type 0} (count : ℕ) (last : LineRows O) (end : O) → first.model.now ≡ m → CutBelow (AddsLines o) (compiled_layer m) (CutsLines o) first count last
      → (first.out.ghost_name ≡ last.out.ghost_name → end ≡ last.out.now) → Rose (o.faults first.out.now) (o.faults last.out.now) → Emits o first.out.now end A
  out_cut {A} count last end is (n, within, mid, added, cut) ends rose =
      let has : HasPrinted n mid = printed-below n mid is added in
      let whole : Emits o first.out.now last.out.now A = record { faults = omega (arith, has.frame.faults, cut.frame.faults); fault = λ failed. rose } in
      subst (λ (x : O). Emits o first.out.now x A) (sym (ends (has.same_out ∙ sym cut.same_out))) whole
