-- Lists of one length, one after another.
use Rattle.std.proofs.Common.{◌≡◌, ℕ, zero, suc, ◌+◌, ◌*◌, ◌<◌, List, [], ◌∷◌, ◌++◌, length, get_or, ◌∙◌, ap, arith, length-append, get_or-append-add}
use Rattle.std.proofs.lemmas.List.{get_or_append_left}
use Rattle.std.specs.List.{flat_map}
use Rattle.acas_units.specs.declared.pair.Entry.{Entry}
use Rattle.acas_table_text.specs.Tables.{no_entry}

-- each list has this length
abbrev pub HaveLength : ℕ → List (List Entry) → Type 0
HaveLength g groups = (k : ℕ) → k < length groups → length (get_or groups k []) ≡ g

abbrev pub joined : List (List Entry) → List Entry
joined layers = flat_map (λ layer. layer) layers

pub length-joined : (layers : List (List Entry)) (w : ℕ) → HaveLength w layers → length (joined layers) ≡ length layers * w
length-joined [] w each = omega arith
length-joined (l ∷ ls) w each =
    length-append l (joined ls) ∙ omega (arith, each 0 (omega arith), length-joined ls w (λ k within. each (suc k) (omega arith)))

-- the j-th of the n-th
pub get_or-joined : (layers : List (List Entry)) (w n j : ℕ) → HaveLength w layers → n < length layers → j < w → get_or (joined layers) (n * w + j) no_entry ≡ get_or (get_or layers n []) j no_entry
get_or-joined [] w n j each there within = absurd (omega arith)
get_or-joined (l ∷ ls) w zero j each there within =
    let long : length l ≡ w = each 0 (omega arith) in
    let at : 0 * w + j ≡ j = omega arith in
    ap (λ (i : ℕ). get_or (l ++ joined ls) i no_entry) at ∙ get_or_append_left l (joined ls) no_entry j (omega arith)
get_or-joined (l ∷ ls) w (suc n) j each there within =
    let long : length l ≡ w = each 0 (omega arith) in
    let at : suc n * w + j ≡ length l + (n * w + j) = omega arith in
    ap (λ (i : ℕ). get_or (l ++ joined ls) i no_entry) at
    ∙ get_or-append-add l (joined ls) (n * w + j) no_entry
    ∙ get_or-joined ls w n j (λ k more. each (suc k) (omega arith)) (omega arith) within
