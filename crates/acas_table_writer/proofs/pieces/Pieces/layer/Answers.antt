use Rattle.std.proofs.Common.{true, false, ◌≡◌, ◌+◌, ◌-◌, ◌*◌, ◌≤◌, [], ◌++◌, List, ℕ, length, take, drop, arith, refl, sym, ◌∙◌, ap, subst, append_assoc}
use Rattle.std.proofs.lemmas.List.{append-nil, length-drop, length-take-le, take_all}
use Rattle.std.proofs.lemmas.Grind.{common_steps}
use Rattle.std.proofs.lemmas.Result.{err_from_is_err_and, on_ok_weaker, on_err_weaker}
use Rattle.sha2.specs.Sha256.{sha256}
use Rattle.acas_units.specs.declared.pair.Entry.{Entry}
use Rattle.acas_units.specs.declared.pair.Pair.{Pair}
use Rattle.acas_outside.specs.Files.{Grows, GrowsPart}
use Rattle.acas_outside.proofs.Grown.{grows_none, held_grown}
use Rattle.acas_outside.specs.Frame.{OnlyWrites}
use Rattle.acas_outside.specs.declared.folder.Folder.{Ghosts as FolderMeanings}
use Rattle.acas_table_writer.specs.Pieces.{Holds}
use Rattle.acas_table_text.specs.Growth.{layer_bytes}
use Rattle.acas_table_text.specs.Text.{layer_text, layer_of}
use Rattle.acas_table_text.specs.declared.format.Format.{Format}
use Rattle.acas_table_text.specs.declared.format.Format.TheVariants.{Layered, Whole}
use Rattle.acas_table_text.proofs.Layers.{text_piece, text_split}
use Rattle.acas_table_writer.proofs.Growing.{grows_as, grows_then, part_then}
use Rattle.acas_table_writer.proofs.pieces.Pieces.layer.Goals as goal

-- two calls that wrote, and one that did not fail
writes_then : {F : Type 0} (d : FolderMeanings F) (a b c : F) (A B : Type 0) → OnlyWrites d a b A → OnlyWrites d b c B → OnlyWrites d a c B
writes_then d a b c A B v w = record { serves = w.serves ∙ v.serves; misses = w.misses ∙ v.misses; taken = w.taken ∙ v.taken; faults = omega (arith, v.faults, w.faults); fault = λ f. omega (arith, v.faults, w.fault f) }

writes_same : {F : Type 0} (d : FolderMeanings F) (a b : F) (A B : Type 0) → (B → A) → OnlyWrites d a b A → OnlyWrites d a b B
writes_same d a b A B is w = record { serves = w.serves; misses = w.misses; taken = w.taken; faults = w.faults; fault = λ f. w.fault (is f) }

no_err : {A : Type 0} → false ≡ true → A
no_err is = cc

pub loop-at-init : goal.loop-at-init
loop-at-init g c = record {
  within = omega arith;
  held = c.requires.held;
  grown = grows_none _ c.args.name.now c.requires.held;
  hashed = λ m holds. subst (λ (l : List ℕ). Holds c.args.self.now l) (sym (append-nil m)) holds;
  frame = grind arith;
}

-- what is encoded of a piece
piece_text : (ps : List Pair) (vs bytes : List ℕ) (at n : ℕ) → at + n ≤ length ps
    → take (17 * length (take (at + n - at) (drop at ps))) bytes ≡ layer_text (layer_of (take (at + n - at) (drop at ps)) (take (at + n - at) (drop at vs)))
    → take (17 * n) bytes ≡ layer_text (layer_of (take (at + n - at) (drop at ps)) (take (at + n - at) (drop at vs)))
piece_text ps vs bytes at n within text =
    let long : length (take (at + n - at) (drop at ps)) ≡ n = length-take-le (at + n - at) (drop at ps) (omega (arith, length-drop at ps, within)) ∙ omega arith in
    ap (λ (k : ℕ). take (17 * k) bytes) (sym long) ∙ text

-- what is a part of a text is one of a longer text
longer : (a b c rest text whole : List ℕ) → a ++ b ++ c ≡ text → text ++ rest ≡ whole → a ++ b ++ (c ++ rest) ≡ whole
longer a b c rest text whole is begins = sym (append_assoc (a ++ b) c rest) ∙ ap (λ (l : List ℕ). l ++ rest) is ∙ begins

-- the bytes of a layer begin with its entries
abbrev layer_rest : Format → List ℕ → List Entry → List ℕ
layer_rest Whole m layer = []
layer_rest Layered m layer = sha256 (m ++ layer_text layer)

begins_so : (f : Format) (m : List ℕ) (layer : List Entry) → layer_text layer ++ layer_rest f m layer ≡ layer_bytes f m layer
begins_so Whole m layer = append-nil (layer_text layer)
begins_so Layered m layer = refl

pub returns-in_err-front : goal.returns-in_err-front
returns-in_err-front g c =
    let at = c.loop-at.at in
    let n = c.min-count.result in
    let ps = c.args.pairs.now in
    let vs = c.args.advice.now in
    let layer = layer_of ps vs in
    let within : c.loop-at.at + c.min-count.result ≤ length c.args.pairs.now = grind (arith, common_steps) in
    let text = piece_text ps vs c.encode.new.self.buffer.items at n within c.encode.ensures.text in
    let behind : List ℕ = layer_text (layer_of (drop (at + n) ps) (drop (at + n) vs)) in
    let so_far : List ℕ = layer_text (layer_of (take at ps) (take at vs)) in
    let piece : List ℕ = layer_text (layer_of (take (at + n - at) (drop at ps)) (take (at + n - at) (drop at vs))) in
    let p = err_from_is_err_and c.from_residual.result c.from_residual.ensures.1 in
    rw p.1 (record {
      ok = λ m holds. tt;
      err = λ m holds.
          let rest : List ℕ = layer_rest c.args.format m layer in
          (part_then _ _ _ c.args.name.now so_far piece (behind ++ rest) _
          (longer so_far piece behind rest _ _ (text_split ps vs at n c.requires.long within) (begins_so c.args.format m layer))
          c.loop-at.invariant.grown (subst (λ (l : List ℕ). GrowsPart (g.F.Folder.holds c.loop-at.folder) (g.F.Folder.holds c.front.new.folder) c.args.name.now l) text c.in_err-front.ensures.err));
      hashed = λ m holds. tt;
      frame = writes_then g.F.Folder _ _ _ _ _ c.loop-at.invariant.frame c.in_err-front.ensures.frame;
    })

pub loop-at-preserved : goal.loop-at-preserved
loop-at-preserved g c =
    let at = c.loop-at.at in
    let n = c.min-count.result in
    let ps = c.args.pairs.now in
    let vs = c.args.advice.now in
    let within : c.loop-at.at + c.min-count.result ≤ length c.args.pairs.now = grind (arith, common_steps) in
    let text = piece_text ps vs c.encode.new.self.buffer.items at n within c.encode.ensures.text in
    let more = text_piece ps vs at n c.requires.long c.loop-at.invariant.within in
    let so_far : List ℕ = layer_text (layer_of (take at ps) (take at vs)) in
    record {
      within = within;
      held = held_grown _ _ c.args.name.now _ c.in_ok-front.ensures.ok;
      grown = grows_then _ _ _ c.args.name.now _ _ _ more c.loop-at.invariant.grown
          (subst (λ (l : List ℕ). Grows (g.F.Folder.holds c.loop-at.folder) (g.F.Folder.holds c.front.new.folder) c.args.name.now l) text c.in_ok-front.ensures.ok);
      hashed = λ m holds. subst (λ (l : List ℕ). Holds c.front.new.self l)
          (ap (λ (l : List ℕ). (m ++ so_far) ++ l) text ∙ append_assoc m so_far _ ∙ ap (λ (l : List ℕ). m ++ l) (sym more))
          (c.in_ok-front.ensures.hashed (m ++ so_far) (c.encode.ensures.hashed (m ++ so_far) (c.loop-at.invariant.hashed m holds)));
      frame = grind arith;
    }

-- ---- behind the entries

-- all of them
text_taken : (ps : List Pair) (vs : List ℕ) (at : ℕ) → length ps ≤ at → length vs ≡ length ps → layer_text (layer_of (take at ps) (take at vs)) ≡ layer_text (layer_of ps vs)
text_taken ps vs at past long =
    ap (λ (qs : List Pair). layer_text (layer_of qs (take at vs))) (take_all at ps past) ∙ ap (λ (bs : List ℕ). layer_text (layer_of ps bs)) (take_all at vs (omega (arith, long, past)))

pub digest-requires-clause-held : goal.digest-requires-clause-held
digest-requires-clause-held g c = c.loop-at.invariant.held

pub returns-in-Layered-clause-ok : goal.returns-in-Layered-clause-ok
returns-in-Layered-clause-ok g c = λ m holds.
    let layer = layer_of c.args.pairs.now c.args.advice.now in
    let whole = ap (λ (f : Format). layer_bytes f m layer) c.in-Layered.is in
    let past : length c.args.pairs.now ≤ c.loop-at.at = grind (arith, common_steps) in
    let all = text_taken c.args.pairs.now c.args.advice.now c.loop-at.at past c.requires.long in
    on_ok_weaker c.digest.result
    (λ grown. grows_then _ _ _ c.args.name.now (layer_text layer) (sha256 (m ++ layer_text layer)) _ whole
    (grows_as _ _ c.args.name.now _ _ (sym all) c.loop-at.invariant.grown) grown)
    (c.digest.ensures.ok (m ++ layer_text layer) (subst (λ (l : List ℕ). Holds c.loop-at.self (m ++ l)) all (c.loop-at.invariant.hashed m holds)))

pub returns-in-Layered-clause-err : goal.returns-in-Layered-clause-err
returns-in-Layered-clause-err g c = λ m holds.
    let layer = layer_of c.args.pairs.now c.args.advice.now in
    let whole = ap (λ (f : Format). layer_bytes f m layer) c.in-Layered.is in
    let past : length c.args.pairs.now ≤ c.loop-at.at = grind (arith, common_steps) in
    let all = text_taken c.args.pairs.now c.args.advice.now c.loop-at.at past c.requires.long in
    on_err_weaker c.digest.result
    (λ part. part_then _ _ _ c.args.name.now (layer_text layer) (sha256 (m ++ layer_text layer)) [] _ (append-nil _ ∙ sym whole)
    (grows_as _ _ c.args.name.now _ _ (sym all) c.loop-at.invariant.grown) part)
    (c.digest.ensures.err (m ++ layer_text layer) (subst (λ (l : List ℕ). Holds c.loop-at.self (m ++ l)) all (c.loop-at.invariant.hashed m holds)))

pub returns-in-Layered-clause-frame : goal.returns-in-Layered-clause-frame
returns-in-Layered-clause-frame g c = writes_then g.F.Folder _ _ _ _ _ c.loop-at.invariant.frame c.digest.ensures.frame

pub returns-in-Whole : goal.returns-in-Whole
returns-in-Whole g c =
    let layer = layer_of c.args.pairs.now c.args.advice.now in
    let past : length c.args.pairs.now ≤ c.loop-at.at = grind (arith, common_steps) in
    let all = text_taken c.args.pairs.now c.args.advice.now c.loop-at.at past c.requires.long in record {
      ok = λ m holds. grows_as _ _ c.args.name.now _ _ (ap (λ (f : Format). layer_bytes f m layer) c.in-Whole.is ∙ sym all) c.loop-at.invariant.grown;
      err = λ m holds. tt;
      hashed = λ m holds. rw c.in-Whole.is (subst (λ (l : List ℕ). Holds c.loop-at.self (m ++ l)) all (c.loop-at.invariant.hashed m holds));
      frame = writes_same g.F.Folder _ _ _ _ no_err c.loop-at.invariant.frame;
    }

pub encode-requires-clause-bound : goal.encode-requires-clause-bound
encode-requires-clause-bound g c = grind (arith, common_steps)

pub encode-requires-clause-long : goal.encode-requires-clause-long
encode-requires-clause-long g c = grind (arith, common_steps)

pub front-requires-clause-within : goal.front-requires-clause-within
front-requires-clause-within g c = grind (arith, common_steps)

pub overflow_mul-count : goal.overflow_mul-count
overflow_mul-count g c = grind (arith, common_steps)

pub returns-in-Layered-clause-hashed : goal.returns-in-Layered-clause-hashed
returns-in-Layered-clause-hashed g c = grind (arith, common_steps)

pub loop-at-smaller : goal.loop-at-smaller
loop-at-smaller g c = grind (arith, common_steps)

pub overflow_add-at-in-loop-at-2 : goal.overflow_add-at-in-loop-at-2
overflow_add-at-in-loop-at-2 g c = grind (arith, common_steps)
