-- Layers, entry by entry and piece by piece.
use Rattle.std.proofs.Common.{◌≡◌, ℕ, ◌+◌, ◌-◌, ◌<◌, ◌≤◌, List, [], ◌∷◌, ◌++◌, length, take, drop, get_or, refl, sym, ◌∙◌, ap, arith, take-append-drop}
use Rattle.std.proofs.Math.Seq.{take-add}
use Rattle.std.proofs.lemmas.List.{take_more, length-take-le, append-nil}
use Rattle.std.proofs.lemmas.Grind.{flat_map-append}
use Rattle.acas_units.specs.declared.pair.Entry.{Entry}
use Rattle.acas_units.specs.declared.pair.Pair.{Pair}
use Rattle.acas_table_text.specs.Text.{entry_text, layer_text, layer_of}

layer_of-append : (ps qs : List Pair) (vs bs : List ℕ) → length ps ≡ length vs → layer_of (ps ++ qs) (vs ++ bs) ≡ layer_of ps vs ++ layer_of qs bs
layer_of-append [] qs [] bs long = refl
layer_of-append [] qs (a ∷ vs) bs long = absurd (omega (arith, long))
layer_of-append (p ∷ ps) qs [] bs long = absurd (omega (arith, long))
layer_of-append (p ∷ ps) qs (a ∷ vs) bs long = ap (λ (es : List Entry). record { pair = p; advice = a } ∷ es) (layer_of-append ps qs vs bs (omega (arith, long)))

text-append : (ps qs : List Pair) (vs bs : List ℕ) → length ps ≡ length vs → layer_text (layer_of (ps ++ qs) (vs ++ bs)) ≡ layer_text (layer_of ps vs) ++ layer_text (layer_of qs bs)
text-append ps qs vs bs long = ap layer_text (layer_of-append ps qs vs bs long) ∙ flat_map-append entry_text (layer_of ps vs) (layer_of qs bs)

-- one piece more
pub text_more : (ps : List Pair) (vs : List ℕ) (at n : ℕ) → length vs ≡ length ps → at ≤ length ps
    → layer_text (layer_of (take (at + n) ps) (take (at + n) vs)) ≡ layer_text (layer_of (take at ps) (take at vs)) ++ layer_text (layer_of (take n (drop at ps)) (take n (drop at vs)))
text_more ps vs at n long within =
    ap (λ (qs : List Pair). layer_text (layer_of qs (take (at + n) vs))) (take-add at n ps)
    ∙ ap (λ (bs : List ℕ). layer_text (layer_of (take at ps ++ take n (drop at ps)) bs)) (take-add at n vs)
    ∙ text-append (take at ps) (take n (drop at ps)) (take at vs) (take n (drop at vs)) (length-take-le at ps within ∙ sym (length-take-le at vs (omega arith)))

-- one entry more
pub text_next : (ps : List Pair) (vs : List ℕ) (i : ℕ) (d : Pair) → length vs ≡ length ps → i < length ps
    → layer_text (layer_of (take (i + 1) ps) (take (i + 1) vs)) ≡ layer_text (layer_of (take i ps) (take i vs)) ++ entry_text (record { pair = get_or ps i d; advice = get_or vs i 0 })
text_next ps vs i d long within =
    ap (λ (qs : List Pair). layer_text (layer_of qs (take (i + 1) vs))) (take_more ps i d within)
    ∙ ap (λ (bs : List ℕ). layer_text (layer_of (take i ps ++ get_or ps i d ∷ []) bs)) (take_more vs i 0 (omega arith))
    ∙ text-append (take i ps) (get_or ps i d ∷ []) (take i vs) (get_or vs i 0 ∷ []) (length-take-le i ps (omega arith) ∙ sym (length-take-le i vs (omega arith)))
    ∙ ap (λ (l : List ℕ). layer_text (layer_of (take i ps) (take i vs)) ++ l) (append-nil (entry_text (record { pair = get_or ps i d; advice = get_or vs i 0 })))

-- the same, as the code cuts the piece
pub text_piece : (ps : List Pair) (vs : List ℕ) (at n : ℕ) → length vs ≡ length ps → at ≤ length ps
    → layer_text (layer_of (take (at + n) ps) (take (at + n) vs)) ≡ layer_text (layer_of (take at ps) (take at vs)) ++ layer_text (layer_of (take (at + n - at) (drop at ps)) (take (at + n - at) (drop at vs)))
text_piece ps vs at n long within =
    text_more ps vs at n long within
    ∙ ap (λ (k : ℕ). layer_text (layer_of (take at ps) (take at vs)) ++ layer_text (layer_of (take k (drop at ps)) (take k (drop at vs)))) (omega arith)

-- the whole, with what is behind the piece
pub text_split : (ps : List Pair) (vs : List ℕ) (at n : ℕ) → length vs ≡ length ps → at + n ≤ length ps
    → layer_text (layer_of (take at ps) (take at vs)) ++ layer_text (layer_of (take (at + n - at) (drop at ps)) (take (at + n - at) (drop at vs))) ++ layer_text (layer_of (drop (at + n) ps) (drop (at + n) vs)) ≡ layer_text (layer_of ps vs)
text_split ps vs at n long within =
    ap (λ (l : List ℕ). l ++ layer_text (layer_of (drop (at + n) ps) (drop (at + n) vs))) (sym (text_piece ps vs at n long (omega arith)))
    ∙ sym (text-append (take (at + n) ps) (drop (at + n) ps) (take (at + n) vs) (drop (at + n) vs) (length-take-le (at + n) ps within ∙ sym (length-take-le (at + n) vs (omega arith))))
    ∙ ap (λ (qs : List Pair). layer_text (layer_of qs (take (at + n) vs ++ drop (at + n) vs))) (take-append-drop (at + n) ps)
    ∙ ap (λ (bs : List ℕ). layer_text (layer_of ps bs)) (take-append-drop (at + n) vs)

pub text_step : (a b x y whole : List ℕ) → a ≡ b → x ≡ y → whole ≡ b ++ y → a ++ x ≡ whole
text_step a b x y whole front step is = ap (λ (l : List ℕ). l ++ x) front ∙ ap (λ (l : List ℕ). b ++ l) step ∙ sym is
