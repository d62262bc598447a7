-- What the lines of neighbouring states begin with.
use Rattle.std.proofs.Common.{◌≡◌, ◌≢◌, ℕ, zero, suc, ◌+◌, ◌-◌, ◌*◌, ◌/◌, ◌%◌, ◌<◌, ℤ, List, get_or, length, sym, ◌∙◌, ap, append_assoc, arith}
use Rattle.std.proofs.lemmas.Nat.{div-add-mod', same_from_place}
use Rattle.std.proofs.Math.Nat.{mod-lt, zero-mod}
use Rattle.acas_spec.specs.Model.{ModelData, states, vertices}
use Rattle.acas_spec.specs.declared.place.Vertex.{Vertex}
use Rattle.acas_command.specs.Fields.{state_fields}
use Rattle.acas_grid.specs.States.{state_present, state_vertex}
use Rattle.acas_means.specs.Layer.{pair_at}
use Rattle.acas_sweep.specs.Handed.{LayerData}
use Rattle.acas_table_rows.specs.Heads.{BeginsLine, HasHead, line_behind, line_head}
use Rattle.acas_table_rows.specs.ValuesText.{entry_line, listed_line}

-- a number and the next one have one quotient where the next one's remainder is not 0
next_quotient : (s c : ℕ) → 0 < c → (s + 1) % c ≢ 0 → (s + 1) / c ≡ s / c
next_quotient s c some apart =
    (same_from_place ((s + 1) / c) ((s + 1) % c - 1) (s / c) (s % c) c (omega (arith, mod-lt (s + 1) some)) (mod-lt s some)
    (omega (arith, div-add-mod' (s + 1) c, div-add-mod' s c, apart))).0

-- the line of an entry is one that begins with its head
pub entry_line-begins : (m : ModelData) (n p : ℕ) (x : Vertex) (lower upper : ℤ) (advice : ℕ) →
    entry_line m n p x lower upper advice ≡ line_behind m n x.k lower upper advice (line_head m n p x.i x.j)
unfolding entry_line line_head state_fields
entry_line-begins m n p x lower upper advice = simp append_assoc

-- the line of a state, behind what it begins with
pub line_of_head : (m : ModelData) (layer : LayerData) (s k : ℕ) (head line : List ℕ) → BeginsLine m layer.n s head → k ≡ (state_vertex m.grid s).k
    → line ≡ line_behind m layer.n k (pair_at layer.pairs s).lower (pair_at layer.pairs s).upper (get_or layer.advice s 0) head → line ≡ listed_line m layer s
line_of_head m layer s k head line here place is =
    let pair = pair_at layer.pairs s in
    let advice = get_or layer.advice s 0 in
    let x = state_vertex m.grid s in
    is
    ∙ ap (λ (h : List ℕ). line_behind m layer.n k pair.lower pair.upper advice h) here.same
    ∙ ap (λ (y : ℕ). line_behind m layer.n y pair.lower pair.upper advice (line_head m layer.n (state_present m.grid s) x.i x.j)) place
    ∙ sym (entry_line-begins m layer.n (state_present m.grid s) x pair.lower pair.upper advice)

-- ---- neighbouring states

-- a factor of what is above 0 is above 0
some_last : (a b c : ℕ) → 0 < a * (b * c) → 0 < c
some_last a b zero h = absurd (omega (arith, h))
some_last a b (suc c) h = omega arith

-- so is the product of the others
some_product : (a b : ℕ) → 0 < a * b → 0 < b
some_product a zero h = absurd (omega (arith, h))
some_product a (suc b) h = omega arith

-- the next remainder is one more, unless it is 0
next_remainder : (s c : ℕ) → 0 < c → (s + 1) % c ≢ 0 → (s + 1) % c ≡ s % c + 1
next_remainder s c some apart =
    let same = next_quotient s c some apart in
    let below : (s + 1) / c * c ≡ s / c * c = ap (λ (q : ℕ). q * c) same in
    omega (arith, below, div-add-mod' (s + 1) c, div-add-mod' s c)

-- the remainder of a remainder is 0 where the remainder is
none_left : (x c : ℕ) → x ≡ 0 → x % c ≡ 0
none_left x c e = rw e (zero-mod c)

-- what a line begins with is the same for the next state, unless that is at the first place of the axis of intruder rate
pub begins_next : (m : ModelData) (n s : ℕ) (head : List ℕ) → s < states m.grid → BeginsLine m n s head → HasHead m n (s + 1) head
begins_next m n s head inside here apart =
    let g = m.grid in
    let v = vertices g in
    let some : 0 < v = some_product g.advisories v (omega (arith, inside)) in
    let rates : 0 < length g.v1 = some_last 1 (length g.h * length g.v0) (length g.v1) (omega (arith, some)) in
    let not_first : (s + 1) % v ≢ 0 = λ e. apart (none_left ((s + 1) % v) (length g.v1) e) in
    let present : (s + 1) / v ≡ s / v = next_quotient s v some not_first in
    let next : (s + 1) % v ≡ s % v + 1 = next_remainder s v some not_first in
    let row : (s + 1) % v / length g.v1 ≡ s % v / length g.v1 =
    ap (λ (y : ℕ). y / length g.v1) next ∙ next_quotient (s % v) (length g.v1) rates (λ e. apart (ap (λ (y : ℕ). y % length g.v1) next ∙ e)) in
    record {
      same = here.same ∙ sym (ap (λ (p : ℕ). line_head m n p ((s + 1) % v / length g.v1 / length g.v0) ((s + 1) % v / length g.v1 % length g.v0)) present
          ∙ ap (λ (r : ℕ). line_head m n (s / v) (r / length g.v0) (r % length g.v0)) row);
      short = here.short;
    }
