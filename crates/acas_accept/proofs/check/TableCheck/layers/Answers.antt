use Rattle.std.proofs.lemmas.Grind.{common_steps}
use Rattle.std.proofs.Common.{◌≡◌, ◌+◌, ◌*◌, ℕ, List, ap, subst, sym, arith}
use Rattle.std.proofs.lemmas.Result.{err_from_is_err_and}
use Rattle.acas_units.specs.declared.pair.Pair.{Pair}
use Rattle.acas_spec.specs.Model.{GridData, entries, states}
use Rattle.acas_accept.specs.Checking.{HasAccepted, IsAnswer, IsBeforeLayer, IsCheckOf, IsInLayer}
use Rattle.acas_accept.specs.Keeping.{AreRead}
use Rattle.acas_accept.proofs.Frames.{reads_on}
use Rattle.acas_accept.proofs.Steps.{accepted_at, before_next_layer, check_next_layer}
use Rattle.acas_table.proofs.Told.{told_at, told_both, told_map}
use Rattle.acas_accept.proofs.check.TableCheck.layers.Goals as goal

pub loop-n-init : goal.loop-n-init
loop-n-init g c = grind (arith, common_steps)

pub returns-in_err-layer : goal.returns-in_err-layer
returns-in_err-layer g c =
    let p = err_from_is_err_and c.from_residual.result c.from_residual.ensures.1 in
    rw (p.1, p.2) (record {
      given = λ digest.
          told_map _ c.args.name.now
          (λ bytes. (HasAccepted c.args.model.now digest c.args.self.now 0 bytes → IsBeforeLayer c.args.model.now digest c.loop-n.self c.loop-n.n bytes × g.K.KeepsLayers.is_of c.loop-n.kept c.args.model.now bytes c.loop-n.n)
          × (IsBeforeLayer c.args.model.now digest c.loop-n.self c.loop-n.n bytes → IsAnswer c.args.model.now digest bytes c.in_err-layer.field-0.0)) _
          (λ bytes both accepted. both.1 (both.0 accepted).0)
          (told_both _ c.args.name.now _ _ (c.loop-n.invariant.given digest) (told_at _ _ c.args.name.now _ c.loop-n.invariant.reads.frame.holds (c.in_err-layer.ensures.given digest)));
      check = tt;
      kept = tt;
      reads = reads_on g.F.Folder _ _ _ _ _ _ _ _ _ c.loop-n.invariant.reads c.in_err-layer.ensures.reads;
    })

pub keep-requires : goal.keep-requires
keep-requires g c = grind (arith, common_steps)

pub loop-n-preserved : goal.loop-n-preserved
loop-n-preserved g c = record {
  check = check_next_layer c.args.model.now c.layer.new.self c.loop-n.n c.in_ok-layer.ensures.check;
  kept = c.keep.ensures.given;
  given = λ digest.
      told_map _ c.args.name.now
      (λ bytes. (HasAccepted c.args.model.now digest c.args.self.now 0 bytes → IsBeforeLayer c.args.model.now digest c.loop-n.self c.loop-n.n bytes × g.K.KeepsLayers.is_of c.loop-n.kept c.args.model.now bytes c.loop-n.n)
      × (IsBeforeLayer c.args.model.now digest c.loop-n.self c.loop-n.n bytes → IsInLayer c.args.model.now digest c.layer.new.self c.loop-n.n (states c.args.model.now.grid) bytes)) _
      (λ bytes both accepted.
      let before = both.0 accepted in
      let whole = both.1 before.0 in
      let read : AreRead c.args.model.now bytes c.loop-n.n (states c.args.model.now.grid) c.deref.result.now c.deref-in-loop-n.result.now =
      subst (λ (xs : List Pair). AreRead c.args.model.now bytes c.loop-n.n (states c.args.model.now.grid) xs c.deref-in-loop-n.result.now) (sym c.deref.ensures.value)
      (subst (λ (xs : List ℕ). AreRead c.args.model.now bytes c.loop-n.n (states c.args.model.now.grid) c.layer.new.self.pairs.items xs) (sym c.deref-in-loop-n.ensures.value) whole.read) in (
        before_next_layer c.args.model.now digest c.layer.new.self c.loop-n.n bytes whole,
        c.keep.ensures.of bytes read before.1,
      ))
      (told_both _ c.args.name.now _ _ (c.loop-n.invariant.given digest) (told_at _ _ c.args.name.now _ c.loop-n.invariant.reads.frame.holds (c.in_ok-layer.ensures.given digest)));
  reads = reads_on g.F.Folder _ _ _ _ _ _ _ _ _ c.loop-n.invariant.reads c.in_ok-layer.ensures.reads;
}

pub returns : goal.returns
returns g c =
    let all : c.loop-n.n ≡ c.args.model.now.grid.horizon + 1 =
    omega (arith, ap (λ (g : GridData). g.horizon) c.grid.ensures.value, ap (λ (g : GridData). g.horizon) c.behind-model.view_is) in
    record {
      given = λ digest.
          told_map _ c.args.name.now (λ bytes. HasAccepted c.args.model.now digest c.args.self.now 0 bytes → IsBeforeLayer c.args.model.now digest c.loop-n.self c.loop-n.n bytes × g.K.KeepsLayers.is_of c.loop-n.kept c.args.model.now bytes c.loop-n.n) _
          (λ bytes given accepted. (
            accepted_at c.args.model.now digest c.loop-n.self (c.loop-n.n * states c.args.model.now.grid) (entries c.args.model.now.grid) bytes (ap (λ (n : ℕ). n * states c.args.model.now.grid) all) (given accepted).0.accepted,
            subst (λ (n : ℕ). g.K.KeepsLayers.is_of c.loop-n.kept c.args.model.now bytes n) all (given accepted).1,
          ))
          (c.loop-n.invariant.given digest);
      check = subst (λ (n : ℕ). IsCheckOf c.args.model.now c.loop-n.self n 0) all c.loop-n.invariant.check;
      kept = subst (λ (n : ℕ). g.K.KeepsLayers.was_given c.loop-n.kept c.args.model.now n) all c.loop-n.invariant.kept;
      reads = c.loop-n.invariant.reads;
    }
