use Rattle.std.proofs.lemmas.Grind.{common_steps}
use Rattle.std.proofs.Common.{◌≡◌, ℕ, ◌==◌, ◌&&◌, not, ◌∙◌, ap, arith}
use Rattle.acas_audit_blocks.specs.Audits.{BlockAuditData, IsPlace, place_of}
use Rattle.acas_audit_blocks.proofs.Filled.{filled_next, filled_to, filled_whole, plane_end, whole_end}
use Rattle.acas_audit_blocks.proofs.Ruled.{place_within}
use Rattle.acas_audit_blocks.proofs.block_audit.BlockAudit.fill.Goals as goal

pub push_sets-requires : goal.push_sets-requires
push_sets-requires c =
    let s = c.loop-k.self in
    let here : IsPlace s c.loop-i.i c.loop-j.j c.loop-k.k = record {
      altitude = omega (arith, ap (λ (a : BlockAuditData). a.altitudes) c.self.view_is);
      own = omega (arith, ap (λ (a : BlockAuditData). a.own_rates) c.self-in-loop-i.view_is);
      intruder = omega (arith, ap (λ (a : BlockAuditData). a.intruder_rates) c.self-in-loop-j.view_is);
    } in
    omega (arith, c.loop-k.invariant.filled.long, place_within s c.loop-i.i c.loop-j.j c.loop-k.k here)

pub loop-k-preserved : goal.loop-k-preserved
loop-k-preserved c =
    let s = c.loop-k.self in
    let here : IsPlace s c.loop-i.i c.loop-j.j c.loop-k.k = record {
      altitude = omega (arith, ap (λ (a : BlockAuditData). a.altitudes) c.self.view_is);
      own = omega (arith, ap (λ (a : BlockAuditData). a.own_rates) c.self-in-loop-i.view_is);
      intruder = omega (arith, ap (λ (a : BlockAuditData). a.intruder_rates) c.self-in-loop-j.view_is);
    } in
    record {
      same = record {
        altitudes = c.push_sets.ensures.same.altitudes ∙ c.loop-k.invariant.same.altitudes;
        own_rates = c.push_sets.ensures.same.own_rates ∙ c.loop-k.invariant.same.own_rates;
        intruder_rates = c.push_sets.ensures.same.intruder_rates ∙ c.loop-k.invariant.same.intruder_rates;
      };
      filled = filled_next c.args.model.now c.args.advices.now c.args.n c.args.present c.loop-i.i c.loop-j.j c.loop-k.k s c.push_sets.new.self _
          c.push_sets.ensures.same here c.loop-k.invariant.filled c.push_sets.ensures.sets
          (record {
            none = c.empty.ensures.none;
            tabled = λ b. c.without.ensures b ∙ ap (λ x. not (b == 0) && x) (c.advices_at.ensures.exact b);
          });
    }

pub loop-j-preserved : goal.loop-j-preserved
loop-j-preserved c = grind (arith, common_steps)

pub loop-i-preserved : goal.loop-i-preserved
loop-i-preserved c =
    let s = c.loop-j.self in
    let ends : c.loop-j.j ≡ s.own_rates =
    omega (arith, c.loop-j-test.false, c.loop-j.auto.j-end, c.loop-j.invariant.same.own_rates, c.loop-i.invariant.same.own_rates, ap (λ (a : BlockAuditData). a.own_rates) c.self-in-loop-i.view_is)
    in
    record {
      same = c.loop-j.invariant.same;
      filled = filled_to c.args.model.now c.args.advices.now c.args.n c.args.present _ _ s
          (ap (λ (x : ℕ). place_of s c.loop-i.i x 0) ends ∙ plane_end s c.loop-i.i) c.loop-j.invariant.filled;
    }

pub returns-clause-begun : goal.returns-clause-begun
returns-clause-begun c =
    let s = c.loop-i.self in
    let ends : c.loop-i.i ≡ s.altitudes =
    omega (arith, c.loop-i-test.false, c.loop-i.auto.i-end, c.loop-i.invariant.same.altitudes, ap (λ (a : BlockAuditData). a.altitudes) c.self.view_is)
    in
    filled_whole c.args.model.now c.args.advices.now c.args.n c.args.present s
    (filled_to c.args.model.now c.args.advices.now c.args.n c.args.present _ _ s (ap (λ (x : ℕ). place_of s x 0 0) ends ∙ whole_end s) c.loop-i.invariant.filled)
