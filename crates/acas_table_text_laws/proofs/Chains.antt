-- A chain of groups, each with its digest behind it, and where its parts stand.
use Rattle.std.proofs.Common.{◌≡◌, ℕ, zero, suc, ◌+◌, ◌-◌, ◌*◌, ◌<◌, List, [], ◌∷◌, ◌++◌, length, get_or, take, refl, sym, ◌∙◌, ap, arith, append_assoc, length-append}
use Rattle.std.proofs.Math.Seq.{drop-append-add}
use Rattle.std.proofs.lemmas.List.{append-nil, take_at}
use Rattle.std.proofs.lemmas.Grind.{flat_map-append}
use Rattle.std.specs.List.{flat_map}
use Rattle.sha2.specs.Sha256.{sha256, digest_bytes, final_hash, initial_hash_256}
use Rattle.acas_units.specs.declared.pair.Entry.{Entry}
use Rattle.acas_table_text.specs.Format.{part}
use Rattle.acas_table_text.specs.Text.{chain, entry_text, layer_text, groups_of}
use Rattle.acas_table_text.specs.Growth.{text_behind}
use Rattle.acas_table_text.specs.Tables.{no_entry}
use Rattle.acas_table_text.specs.declared.format.Format.{Format}
use Rattle.acas_table_text.specs.declared.format.Format.TheVariants.{Layered, Whole}
use Rattle.acas_table_text.proofs.Parts.{part-at}
use Rattle.acas_table_text.proofs.Joined.{HaveLength, joined}

-- ---- a text is a chain of groups

text-joined : (layers : List (List Entry)) → layer_text (joined layers) ≡ flat_map layer_text layers
text-joined [] = refl
text-joined (l ∷ ls) = flat_map-append entry_text l (joined ls) ∙ ap (λ (t : List ℕ). layer_text l ++ t) (text-joined ls)

pub text-chain : (f : Format) (head : List ℕ) (layers : List (List Entry)) → text_behind f head layers ≡ head ++ chain head (groups_of f layers)
text-chain Whole head layers =
    ap (λ (t : List ℕ). head ++ t ++ sha256 (head ++ t)) (sym (text-joined layers))
    ∙ append_assoc head (layer_text (joined layers)) (sha256 (head ++ layer_text (joined layers)))
    ∙ ap (λ (t : List ℕ). head ++ t) (sym (append-nil (layer_text (joined layers) ++ sha256 (head ++ layer_text (joined layers)))))
text-chain Layered head layers = append-nil (head ++ chain head layers)

-- ---- lengths

length_digest : (h : List ℕ) (n : ℕ) → length (digest_bytes h n) ≡ 4 * n
unfolding digest_bytes
length_digest h zero = refl
length_digest h (suc n) = length-append (digest_bytes h n) _ ∙ omega (arith, length_digest h n)

pub length-sha256 : (m : List ℕ) → length (sha256 m) ≡ 32
unfolding sha256
length-sha256 m = length_digest (final_hash initial_hash_256 m) 8

length_entry : (e : Entry) → length (entry_text e) ≡ 17
unfolding entry_text
length_entry e = refl

pub length_layer : (es : List Entry) → length (layer_text es) ≡ 17 * length es
length_layer [] = refl
length_layer (e ∷ es) = length-append (entry_text e) (layer_text es) ∙ omega (arith, length_entry e, length_layer es)

-- a group and its digest
length-link : (before : List ℕ) (l : List Entry) (g : ℕ) → length l ≡ g → length (layer_text l ++ sha256 (before ++ layer_text l)) ≡ 17 * g + 32
length-link before l g long =
    length-append (layer_text l) (sha256 (before ++ layer_text l)) ∙ omega (arith, length_layer l, length-sha256 (before ++ layer_text l))

pub length-chain : (before : List ℕ) (groups : List (List Entry)) (g : ℕ) → HaveLength g groups → length (chain before groups) ≡ length groups * (17 * g + 32)
length-chain before [] g each = omega arith
length-chain before (l ∷ ls) g each =
    let next = sha256 (before ++ layer_text l) in
    length-append (layer_text l ++ next) (chain next ls)
    ∙ omega (arith, length-link before l g (each 0 (omega arith)), length-chain next ls g (λ k within. each (suc k) (omega arith)))

-- ---- entries

pub part_skip : (x y : List ℕ) (k m n : ℕ) → length x ≡ k → part (x ++ y) (k + m) n ≡ part y m n
part_skip x y k m n long = ap (λ (j : ℕ). part (x ++ y) (j + m) n) (sym long) ∙ ap (λ (l : List ℕ). take n l) (drop-append-add x y m)

part_here : (f y : List ℕ) (n : ℕ) → length f ≡ n → part (f ++ y) 0 n ≡ f
part_here f y n long = take_at f y n long

-- the i-th entry of a layer
entry_part : (es : List Entry) (rest : List ℕ) (i : ℕ) → i < length es → part (layer_text es ++ rest) (17 * i) 17 ≡ entry_text (get_or es i no_entry)
entry_part [] rest i within = absurd (omega (arith, within))
entry_part (e ∷ es) rest zero within = ap (λ (l : List ℕ). part l 0 17) (append_assoc (entry_text e) (layer_text es) rest) ∙ part_here (entry_text e) (layer_text es ++ rest) 17 (length_entry e)
entry_part (e ∷ es) rest (suc i) within =
    let at : 17 * suc i ≡ 17 + 17 * i = omega arith in
    ap (λ (l : List ℕ). part l (17 * suc i) 17) (append_assoc (entry_text e) (layer_text es) rest)
    ∙ ap (λ (k : ℕ). part (entry_text e ++ (layer_text es ++ rest)) k 17) at
    ∙ part_skip (entry_text e) (layer_text es ++ rest) 17 (17 * i) 17 (length_entry e)
    ∙ entry_part es rest i (omega (arith, within))

-- the j-th entry of the k-th group of a chain
pub entry_in_chain : (before : List ℕ) (groups : List (List Entry)) (g k j : ℕ) → HaveLength g groups → k < length groups → j < g
    → part (chain before groups) (k * (17 * g + 32) + 17 * j) 17 ≡ entry_text (get_or (get_or groups k []) j no_entry)
entry_in_chain before [] g k j each there within = absurd (omega arith)
entry_in_chain before (l ∷ ls) g zero j each there within =
    let next = sha256 (before ++ layer_text l) in
    let long : length l ≡ g = each 0 (omega arith) in
    let at : 0 * (17 * g + 32) + 17 * j ≡ 17 * j = omega arith in
    ap (λ (t : List ℕ). part t (0 * (17 * g + 32) + 17 * j) 17) (append_assoc (layer_text l) next (chain next ls))
    ∙ ap (λ (p : ℕ). part (layer_text l ++ (next ++ chain next ls)) p 17) at
    ∙ entry_part l (next ++ chain next ls) j (omega arith)
entry_in_chain before (l ∷ ls) g (suc k) j each there within =
    let next = sha256 (before ++ layer_text l) in
    let long : length l ≡ g = each 0 (omega arith) in
    let at : suc k * (17 * g + 32) + 17 * j ≡ 17 * g + 32 + (k * (17 * g + 32) + 17 * j) = omega arith in
    ap (λ (p : ℕ). part (layer_text l ++ next ++ chain next ls) p 17) at
    ∙ part_skip (layer_text l ++ next) (chain next ls) (17 * g + 32) (k * (17 * g + 32) + 17 * j) 17 (length-link before l g long)
    ∙ entry_in_chain next ls g k j (λ i more. each (suc i) (omega arith)) (omega arith) within

-- ---- digests

-- where the k-th digest of a chain at p begins, and what it is over, where the first is over what stands from h on
abbrev pub stop_in : ℕ → ℕ → ℕ → ℕ
stop_in p g k = p + (k * (17 * g + 32) + 17 * g)

abbrev pub from_in : ℕ → ℕ → ℕ → ℕ → ℕ
from_in h p g zero = h
from_in h p g (suc k) = stop_in p g k

from_next : (h p g k from : ℕ) → from ≡ from_in h p g (suc k) → from ≡ from_in (p + 17 * g) (p + 17 * g + 32) g k
from_next h p g zero from is = omega arith
from_next h p g (suc k) from is = omega arith

digest_apart : (x before layer digest rest : List ℕ) → x ++ (before ++ (layer ++ digest ++ rest)) ≡ (x ++ before ++ layer) ++ (digest ++ rest)
digest_apart x before layer digest rest = simp append_assoc

hashed_apart : (x before layer digest rest : List ℕ) → x ++ (before ++ (layer ++ digest ++ rest)) ≡ x ++ ((before ++ layer) ++ (digest ++ rest))
hashed_apart x before layer digest rest = simp append_assoc

-- the k-th digest is that of the group before it and of the digest before that group
pub digest_in_chain : (x before t : List ℕ) (groups : List (List Entry)) (g h p k stop from : ℕ) → length x ≡ h → h + length before ≡ p → HaveLength g groups → k < length groups
    → t ≡ x ++ (before ++ chain before groups) → stop ≡ stop_in p g k → from ≡ from_in h p g k → part t stop 32 ≡ sha256 (part t from (stop - from))
digest_in_chain x before t [] g h p k stop from lx lb each there is at_stop at_from = absurd (omega arith)
digest_in_chain x before t (l ∷ ls) g h p zero stop from lx lb each there is at_stop at_from =
    let layer = layer_text l in
    let digest = sha256 (before ++ layer) in
    let rest = chain digest ls in
    let long : length (layer_text l) ≡ 17 * g = omega (arith, length_layer l, each 0 (omega arith)) in
    let front : length (x ++ before ++ layer_text l) ≡ stop = omega (arith, length-append (x ++ before) layer, length-append x before) in
    let size : length (before ++ layer_text l) ≡ stop - from = omega (arith, length-append before layer) in
    let kept : part t stop 32 ≡ sha256 (before ++ layer_text l) = part-at t (x ++ before ++ layer) digest rest stop 32 (is ∙ digest_apart x before layer digest rest) front (length-sha256 (before ++ layer)) in
    let hashed : part t from (stop - from) ≡ before ++ layer_text l = part-at t x (before ++ layer) (digest ++ rest) from (stop - from) (is ∙ hashed_apart x before layer digest rest) (omega arith) size in
    kept ∙ ap sha256 (sym hashed)
digest_in_chain x before t (l ∷ ls) g h p (suc k) stop from lx lb each there is at_stop at_from =
    let layer = layer_text l in
    let digest = sha256 (before ++ layer) in
    let long : length (layer_text l) ≡ 17 * g = omega (arith, length_layer l, each 0 (omega arith)) in
    let front : length (x ++ before ++ layer_text l) ≡ p + 17 * g = omega (arith, length-append (x ++ before) layer, length-append x before) in
    digest_in_chain (x ++ before ++ layer) digest t ls g (p + 17 * g) (p + 17 * g + 32) k stop from
    front (omega (arith, length-sha256 (before ++ layer)))
    (λ i more. each (suc i) (omega arith)) (omega arith)
    (is ∙ digest_apart x before layer digest (chain digest ls)) (omega arith) (from_next h p g k from at_from)
