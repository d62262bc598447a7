use Rattle.std.proofs.Common.{◌≡◌, ℕ, List, length, refl, ap, subst, sym, ◌∙◌, arith}
use Rattle.std.proofs.lemmas.List.{with_items_is}
use Rattle.std.specs.Vec.{with_items}
use Rattle.acas_units.specs.declared.pair.Pair.{Pair}
use Rattle.acas_spec.specs.Table.{Table}
use Rattle.acas_means.specs.Layer.{AreValuesOf, AreWithin}
use Rattle.acas_means.specs.Means.{AreMeansOf}
use Rattle.acas_accept.specs.declared.check.TableCheck.{TableCheck}
use Rattle.acas_accept.proofs.Steps.{in_layer_first}
use Rattle.acas_accept.proofs.check.TableCheck.begin_layer.Goals as goal

pub returns-then-n-gt0-clause-given : goal.returns-then-n-gt0-clause-given
returns-then-n-gt0-clause-given g c = λ digest bytes before.
    let new : TableCheck =
    record { reader = c.args.self.now.reader; pairs = c.args.self.now.pairs; advice = c.args.self.now.advice; means = with_items c.args.self.now.means c.fill_means_with-size.new.means; leasts = c.forget.new.self } in
    let items : (with_items c.args.self.now.means c.fill_means_with-size.new.means).items ≡ c.fill_means_with-size.new.means =
    with_items_is c.args.self.now.means c.fill_means_with-size.new.means (omega (arith, c.fill_means_with-size.ensures.count, c.requires.check.means, c.args.self.now.means.ok.0)) in
    let means : (t : Table) (k : ℕ) → AreValuesOf c.args.model.now t k c.args.self.now.pairs.items → AreMeansOf c.args.model.now t k c.fill_means_with-size.new.means =
    subst (λ (pairs : List Pair). (t : Table) (k : ℕ) → AreValuesOf c.args.model.now t k pairs → AreMeansOf c.args.model.now t k c.fill_means_with-size.new.means) c.deref.ensures.value c.fill_means_with-size.ensures.means in
    in_layer_first c.args.model.now digest c.args.self.now new c.args.n bytes refl
    (subst (λ (pairs : List Pair). (t : Table) (k : ℕ) → AreValuesOf c.args.model.now t k c.args.self.now.pairs.items → AreMeansOf c.args.model.now t k pairs) (sym items) means) before

pub returns-then-n-gt0-clause-check : goal.returns-then-n-gt0-clause-check
returns-then-n-gt0-clause-check g c =
    let check = c.requires.check in
    let items = with_items_is c.args.self.now.means c.fill_means_with-size.new.means (omega (arith, c.fill_means_with-size.ensures.count, check.means, c.args.self.now.means.ok.0)) in
    record {
      valid = check.valid;
      shape = check.shape;
      given = check.given;
      no_fault = check.no_fault;
      not_done = check.not_done;
      pairs = check.pairs;
      advice = check.advice;
      means = ap length items ∙ c.fill_means_with-size.ensures.count;
      leasts = c.forget.ensures c.args.model.now c.args.self.now.means.items _ check.leasts (λ side. subst (AreWithin c.fill_means_with-size.result side) (sym items) (c.fill_means_with-size.ensures.size side));
      allowed = check.allowed;
    }
