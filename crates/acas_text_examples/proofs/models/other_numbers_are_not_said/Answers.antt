use Rattle.std.proofs.Common.{◌≡◌, ℕ, pos, codes, Option, Some, refl, sym, ap, subst}
use Rattle.toml.specs.Data.{Data, Members, no_members, integer, table}
use Rattle.acas_model.specs.Numbers.{pilot_keys}
use Rattle.acas_model.specs.Text.{HasOnly}
use Rattle.acas_text_examples.specs.Documents.{delayed_keys}
use Rattle.acas_text_examples.proofs.models.other_numbers_are_not_said.Goals as goal

-- the number and the table that stand at a key
number_at : Option Data → ℕ
number_at (Some (integer (pos n))) = n
number_at _ = 0

table_at : Option Data → Members
table_at (Some (table ms)) = ms
table_at _ = no_members

pub returns-clause-delay_before_its_version : goal.returns-clause-delay_before_its_version
unfolding number_at table_at
returns-clause-delay_before_its_version c h =
    let delayed : Members = delayed_keys (pos 0) in
    let first : 1 ≡ h.version = ap number_at h.says_version in
    let same : delayed ≡ h.pilot.inner = ap table_at h.pilot.there in
    let keys : HasOnly (pilot_keys h.version) delayed = subst (λ ms. HasOnly (pilot_keys h.version) ms) (sym same) h.pilot.keys in
    let only : HasOnly (pilot_keys 1) delayed = subst (λ v. HasOnly (pilot_keys v) delayed) (sym first) keys in
    only.none (codes "delay") (record { there = refl; unknown = refl })
