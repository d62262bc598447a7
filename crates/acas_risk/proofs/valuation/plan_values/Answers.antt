use Rattle.std.specs.Prelude.{Vec}
use Rattle.std.specs.declared.alloc.Global.{Global}
use Rattle.std.proofs.Common.{◌≡◌, ℕ, ◌+◌, ◌*◌, ◌^◌, ◌≤◌, List, length, drop, ap, sym, subst, ◌∙◌, arith}
use Rattle.acas_spec.specs.Model.{GridData, states}
use Rattle.acas_units.specs.declared.pair.Pair.{Pair}
use Rattle.acas_means.specs.Columns.{columns}
use Rattle.acas_means.specs.Layer.{AreWithin}
use Rattle.acas_risk.specs.Counts.{model_counting}
use Rattle.acas_risk.specs.Layers.{AreOver}
use Rattle.acas_risk.specs.Pairs.{ArePairsOf}
use Rattle.acas_risk.specs.Plans.{policy_of}
use Rattle.acas_risk.proofs.Costs.{are_small}
use Rattle.acas_risk.proofs.Layers.{larger_by_a_cost, within_more}
use Rattle.acas_risk.proofs.Valued.{known_next, next_layer, pair_count, says_advisories}
use Rattle.acas_risk.proofs.Written.{written_back}
use Rattle.acas_risk.proofs.valuation.plan_values.Goals as goal

pub loop-n-init : goal.loop-n-init
loop-n-init g c =
    let m = c.args.model.now in
    let policy = policy_of m c.args.plan in
    let pairs : List Pair = c.put_endings.new.pairs in
    let are : ArePairsOf (model_counting c.args.counted m) policy 0 pairs = c.put_endings.ensures.pairs policy in
    let count : c.states-states.result ≡ states m.grid = c.states-states.ensures.value ∙ ap (λ (h : GridData). states h) c.grid.ensures.value in
    let back = written_back c.in_ok-below.below.len pairs (drop (length pairs) c.in_ok-below.below.items) (omega (arith, c.in_ok-below.ensures.len, count, pair_count c.args.counted m policy 0 pairs are)) in
    record {
      pairs = subst (λ (l : List Pair). ArePairsOf (model_counting c.args.counted m) policy 0 l) (sym back) are;
      small = λ side. subst (λ (l : List Pair). AreWithin (10 ^ 15) side l) (sym back) (c.put_endings.ensures.small side);
      room = omega (arith, c.in_ok-above.ensures.len, count, c.in_ok-above.above.ok.0);
      known = λ k s earlier. absurd (omega arith);
    }

pub put_over-requires-clause-step : goal.put_over-requires-clause-step
put_over-requires-clause-step g c = record {
  plan = c.requires.plan;
  n = omega (arith, c.loop-n-test.true, ap (λ (h : GridData). h.horizon) c.behind-model.view_is, ap (λ (h : GridData). h.horizon) c.grid-2.ensures.value);
  costs = are_small c.args.counted c.args.model.now c.second_costs-costs.result c.grid.ensures.valid c.second_costs-costs.ensures;
}

pub put_over-requires-clause-below : goal.put_over-requires-clause-below
put_over-requires-clause-below g c =
    let m = c.args.model.now in
    ap (λ (l : List Pair). length l) c.deref.ensures.value ∙ pair_count c.args.counted m (policy_of m c.args.plan) c.loop-n.n c.loop-n.below.items c.loop-n.invariant.pairs

pub put_over-requires-clause-small : goal.put_over-requires-clause-small
put_over-requires-clause-small g c side =
    let m = c.args.model.now in
    let most : (c.loop-n.n + 1) * 10 ^ 15 ≤ 2 ^ 62 = omega (arith, c.loop-n-test.true, c.behind-model.invariant.short_horizon) in
    subst (λ (l : List Pair). AreWithin (2 ^ 62) side l) (sym c.deref.ensures.value) (within_more ((c.loop-n.n + 1) * 10 ^ 15) (2 ^ 62) side c.loop-n.below.items most (c.loop-n.invariant.small side))

pub put_over-requires-clause-above : goal.put_over-requires-clause-above
put_over-requires-clause-above g c = ap (λ (l : List Pair). length l) c.deref_mut-in-loop-n.ensures.value ∙ c.loop-n.invariant.room

pub loop-n-preserved : goal.loop-n-preserved
loop-n-preserved g c =
    let m = c.args.model.now in
    let policy = policy_of m c.args.plan in
    let n = c.loop-n.n in
    let so_far = c.loop-n.invariant in
    let costs = c.second_costs-costs.result in
    let below : List Pair = c.loop-n.below.items in
    let above : List Pair = c.put_over.new.above in
    let count = c.put_over.ensures.count in
    let all : length below ≡ states m.grid = pair_count c.args.counted m policy n below so_far.pairs in
    let over : AreOver m costs policy (n + 1) below (columns m.grid) above = subst (λ (l : List Pair). AreOver m costs policy (n + 1) l (columns m.grid) above) c.deref.ensures.value c.put_over.ensures.over in
    let written : c.swap.new.x.items ≡ above =
    ap (λ (v : Vec Pair Global). v.items) c.swap.ensures.x_after ∙ written_back c.loop-n.above.len above (drop (length above) c.loop-n.above.items) (omega (arith, count, so_far.room, c.loop-n.above.ok.0)) in
    let one_more : (n + 1) * 10 ^ 15 + 10 ^ 15 ≡ (n + 1 + 1) * 10 ^ 15 = omega arith in
    record {
      pairs = subst (λ (l : List Pair). ArePairsOf (model_counting c.args.counted m) policy (n + 1) l) (sym written)
          (next_layer c.args.counted m costs policy n below above c.second_costs-costs.ensures so_far.pairs count over);
      small = λ side. subst (λ (l : List Pair). AreWithin ((n + 1 + 1) * 10 ^ 15) side l) (sym written)
          (subst (λ (k : ℕ). AreWithin k side above) one_more
          (larger_by_a_cost m costs policy (n + 1) ((n + 1) * 10 ^ 15) below above c.grid.ensures.valid (are_small c.args.counted m costs c.grid.ensures.valid c.second_costs-costs.ensures) all count so_far.small over side));
      room = ap (λ (v : Vec Pair Global). length v.items) c.swap.ensures.y_after ∙ all;
      known = known_next m costs policy n below above over so_far.known;
    }

pub returns-clause-pairs : goal.returns-clause-pairs
returns-clause-pairs g c =
    let m = c.args.model.now in
    let ends : c.loop-n.n ≡ m.grid.horizon = omega (arith, c.loop-n-test.false, c.loop-n.auto.n-end, ap (λ (h : GridData). h.horizon) c.behind-model.view_is, ap (λ (h : GridData). h.horizon) c.grid-2.ensures.value) in
    subst (λ (n : ℕ). ArePairsOf (model_counting c.args.counted m) (policy_of m c.args.plan) n c.loop-n.below.items) ends c.loop-n.invariant.pairs

pub returns-clause-known : goal.returns-clause-known
returns-clause-known g c =
    let m = c.args.model.now in
    let ends : m.grid.horizon ≤ c.loop-n.n = omega (arith, c.loop-n-test.false, ap (λ (h : GridData). h.horizon) c.behind-model.view_is, ap (λ (h : GridData). h.horizon) c.grid-2.ensures.value) in
    says_advisories m (policy_of m c.args.plan) (λ k s before inside. c.loop-n.invariant.known k s (omega (arith, before, ends)) inside)
