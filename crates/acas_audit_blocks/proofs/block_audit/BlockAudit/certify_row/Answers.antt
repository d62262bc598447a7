use Rattle.std.proofs.Common.{◌≡◌, ◌+◌, ◌-◌, List, length, refl, sym, ◌∙◌, ap, subst}
use Rattle.std.proofs.lemmas.List.{with_items_is}
use Rattle.std.specs.Vec.{with_items}
use Rattle.acas_audit_blocks.specs.Audits.{AreMoved, BlockAuditData}
use Rattle.acas_audit_blocks.specs.declared.block_audit.CellSets.{CellSets}
use Rattle.acas_audit_blocks.proofs.Moved.{ruled_row}
use Rattle.acas_audit_blocks.proofs.block_audit.BlockAudit.certify_row.Goals as goal

pub returns : goal.returns
returns c =
    let old = c.args.self.now in
    let b = c.args.block.now in
    let start = c.place_of-start.result in
    let end = start + (b.k1 - b.k0) in
    let sets = c.self.inside.sets in
    let written = c.move_row.new.list in
    let moved = c.move_row.ensures in
    let was : c.deref_mut.result.now ≡ old.sets = c.deref_mut.ensures.value ∙ ap (λ (a : BlockAuditData). a.sets) c.self.view_is in
    let is : (with_items sets written).items ≡ written = with_items_is sets written (moved.long ∙ ap length c.deref_mut.ensures.value ∙ sym sets.ok.0) in
    ruled_row c.args.advice b c.args.i c.args.j start end old _ c.requires.sets c.requires.block c.requires.from_i c.requires.before_i c.requires.from_j c.requires.before_j
    c.place_of-start.ensures.value refl
    (record {
      altitudes = ap (λ (a : BlockAuditData). a.altitudes) c.self.view_is;
      own_rates = ap (λ (a : BlockAuditData). a.own_rates) c.self.view_is;
      intruder_rates = ap (λ (a : BlockAuditData). a.intruder_rates) c.self.view_is;
    })
    (subst (λ (l : List CellSets). AreMoved c.args.advice start end old.sets l) (sym is) (subst (λ (l : List CellSets). AreMoved c.args.advice start end l written) was moved))
