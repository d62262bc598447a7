-- The layers that bytes have.
use Rattle.std.proofs.Common.{◌≡◌, ℕ, ◌+◌, ◌*◌, ◌/◌, ◌%◌, ◌<◌, List, [], ◌∷◌, length, get_or, map, sym, ◌∙◌, ap, arith}
use Rattle.std.proofs.lemmas.List.FromFn.{fill_by_all, get_or-map-range_with_len, length-map-range_with_len}
use Rattle.std.proofs.lemmas.Nat.{div-add-mod', div_below, mod_below}
use Rattle.std.specs.List.{range_with_len}
use Rattle.acas_units.specs.declared.pair.Entry.{Entry}
use Rattle.acas_table_text.specs.Shape.{IsShape, entry_count}
use Rattle.acas_table_text.specs.Format.{entry_start, format_of, group_size, last_group, part}
use Rattle.acas_table_text.specs.Text.{entry_at, entry_of, groups_of}
use Rattle.acas_table_text.specs.Tables.{entry_of_state, layer_at, layers_at, no_entry}
use Rattle.acas_table_text.specs.declared.format.Format.{Format}
use Rattle.acas_table_text.specs.declared.format.Format.TheVariants.{Layered, Whole}
use Rattle.acas_table_text.specs.declared.shape.TableShape.{TableShape}
use Rattle.acas_table_text.proofs.Joined.{HaveLength, get_or-joined, joined, length-joined}

pub length-layers_at : (s : TableShape) (bytes : List ℕ) → length (layers_at s bytes) ≡ s.horizon + 1
length-layers_at s bytes = length-map-range_with_len (layer_at s bytes) 0 (s.horizon + 1)

pub length-layer_at : (s : TableShape) (bytes : List ℕ) (n : ℕ) → length (layer_at s bytes n) ≡ s.states
length-layer_at s bytes n = length-map-range_with_len (λ (state : ℕ). entry_at s bytes (n * s.states + state)) 0 s.states

pub layer_given : (s : TableShape) (bytes : List ℕ) (n : ℕ) → n < s.horizon + 1 → get_or (layers_at s bytes) n [] ≡ layer_at s bytes n
layer_given s bytes n seconds = get_or-map-range_with_len (layer_at s bytes) 0 (s.horizon + 1) n n [] seconds (omega arith)

pub layers_given_even : (s : TableShape) (bytes : List ℕ) → HaveLength s.states (layers_at s bytes)
layers_given_even s bytes n there = ap length (layer_given s bytes n (omega (arith, there, length-layers_at s bytes))) ∙ length-layer_at s bytes n

-- the entry of a state that bytes have
pub entry_given : (s : TableShape) (bytes : List ℕ) (n state : ℕ) → n < s.horizon + 1 → state < s.states → entry_of_state (layers_at s bytes) n state ≡ entry_at s bytes (n * s.states + state)
entry_given s bytes n state seconds inside =
    ap (λ (l : List Entry). get_or l state no_entry) (layer_given s bytes n seconds)
    ∙ get_or-map-range_with_len (λ (i : ℕ). entry_at s bytes (n * s.states + i)) 0 s.states state state no_entry inside (omega arith)

-- ---- in groups

abbrev pub entry_in : Format → TableShape → List ℕ → ℕ → Entry
entry_in f s bytes i = entry_of (part bytes (entry_start f s i) 17)

abbrev pub group_in : Format → TableShape → List ℕ → ℕ → List Entry
group_in f s bytes k = map (λ j. entry_in f s bytes (k * group_size f s + j)) (range_with_len 0 (group_size f s))

abbrev pub groups_in : Format → TableShape → List ℕ → List (List Entry)
groups_in f s bytes = map (group_in f s bytes) (range_with_len 0 (last_group f s + 1))

-- all entries that bytes have, of version 1
whole_entry : (s : TableShape) (bytes : List ℕ) (i : ℕ) → format_of bytes ≡ Whole → IsShape s → i < entry_count s → get_or (joined (layers_at s bytes)) i no_entry ≡ entry_in Whole s bytes (0 * entry_count s + i)
whole_entry s bytes i same shape within =
    let layers = layers_at s bytes in
    let n : ℕ = i / s.states in
    let state : ℕ = i % s.states in
    let some : 0 < s.states = omega (arith, shape.some_states) in
    let place : i / s.states * s.states + i % s.states ≡ i = div-add-mod' i s.states in
    let seconds : i / s.states < s.horizon + 1 = div_below i s.states (s.horizon + 1) some within in
    let inside : i % s.states < s.states = mod_below i s.states some in
    let first : i ≡ 0 * entry_count s + i = omega arith in
    ap (λ (j : ℕ). get_or (joined layers) j no_entry) (sym place)
    ∙ get_or-joined layers s.states n state (layers_given_even s bytes) (omega (arith, length-layers_at s bytes)) inside
    ∙ entry_given s bytes n state seconds inside
    ∙ ap (entry_at s bytes) place
    ∙ ap (λ (h : Format). entry_in h s bytes i) same
    ∙ ap (entry_in Whole s bytes) first

-- the groups that bytes have are those of their layers
pub groups_given : (f : Format) (s : TableShape) (bytes : List ℕ) → format_of bytes ≡ f → IsShape s → groups_in f s bytes ≡ groups_of f (layers_at s bytes)
groups_given Whole s bytes same shape =
    let layers = layers_at s bytes in
    let long : length (joined (layers_at s bytes)) ≡ entry_count s = length-joined layers s.states (layers_given_even s bytes) ∙ ap (λ (n : ℕ). n * s.states) (length-layers_at s bytes) in
    ap (λ (l : List Entry). l ∷ [])
    (sym (fill_by_all (λ (j : ℕ). entry_in Whole s bytes (0 * entry_count s + j)) (joined layers) (entry_count s) no_entry long (λ i within. whole_entry s bytes i same shape within)))
groups_given Layered s bytes same shape =
    ap (λ (h : Format). map (λ (k : ℕ). map (λ (j : ℕ). entry_in h s bytes (k * s.states + j)) (range_with_len 0 s.states)) (range_with_len 0 (s.horizon + 1))) (sym same)
