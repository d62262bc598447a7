-- How long the text of a table is.
use Rattle.std.proofs.Common.{◌≡◌, ℕ, zero, suc, ◌+◌, ◌*◌, List, [], length, refl, ap, ◌∙◌, arith, length-append}
use Rattle.std.specs.Prelude.{All}
use Rattle.acas_units.specs.declared.pair.Entry.{Entry}
use Rattle.acas_table_text.specs.Format.{group_size, last_group, length_of}
use Rattle.acas_table_text.specs.Text.{chain, groups_of, header, text_of_layers}
use Rattle.acas_table_text.specs.declared.format.Format.{Format}
use Rattle.acas_table_text.specs.declared.format.Format.TheVariants.{Layered, Whole}
use Rattle.acas_table_text.specs.declared.shape.TableShape.{TableShape}
use Rattle.acas_table_text_laws.proofs.Chains.{length-chain}
use Rattle.acas_table_text.proofs.Groups.{all_groups}
use Rattle.acas_table_text.proofs.Joined.{HaveLength, length-joined}
use Rattle.acas_table_text_laws.proofs.TextLaws.{length_header}

-- layers of one length, in groups
layers_even : (n : ℕ) (layers : List (List Entry)) → All (λ layer. length layer ≡ n) layers → HaveLength n layers
layers_even n layers all k within = all k [] within

number_of_groups : (f : Format) (s : TableShape) (layers : List (List Entry)) → length layers ≡ s.horizon + 1 → length (groups_of f layers) ≡ last_group f s + 1
number_of_groups Whole s layers count = refl
number_of_groups Layered s layers count = count

groups_even : (f : Format) (s : TableShape) (layers : List (List Entry)) → length layers ≡ s.horizon + 1 → All (λ layer. length layer ≡ s.states) layers → HaveLength (group_size f s) (groups_of f layers)
groups_even Whole s layers count all zero within = length-joined layers s.states (layers_even s.states layers all) ∙ ap (λ (n : ℕ). n * s.states) count
groups_even Whole s layers count all (suc k) within = absurd (omega arith)
groups_even Layered s layers count all k within = layers_even s.states layers all k within

-- in either version
pub length-text : (f : Format) (digest : List ℕ) (s : TableShape) (layers : List (List Entry)) → length digest ≡ 32 → length layers ≡ s.horizon + 1
    → All (λ layer. length layer ≡ s.states) layers → length (text_of_layers f digest s layers) ≡ length_of f s
length-text f digest s layers long count all =
    let h : List ℕ = header f digest s in
    let groups : List (List Entry) = groups_of f layers in
    let g : ℕ = group_size f s in
    let total : length (groups_of f layers) * (17 * group_size f s + 32) ≡ (last_group f s + 1) * (17 * group_size f s + 32) = ap (λ (n : ℕ). n * (17 * g + 32)) (number_of_groups f s layers count) in
    length-append h (chain h groups)
    ∙ omega (arith, length_header f digest s long, length-chain h groups g (groups_even f s layers count all), total, all_groups f s)
