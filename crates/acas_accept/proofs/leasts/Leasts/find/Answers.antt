use Rattle.std.proofs.Common.{List, ℤ, length, subst, sym, ◌∙◌, ap, arith}
use Rattle.std.proofs.lemmas.List.{with_items_is}
use Rattle.acas_means.specs.declared.layer.Side.TheVariants.{Lower, Upper}
use Rattle.acas_bounds.specs.Leasts.{AreLeasts}
use Rattle.acas_accept.proofs.leasts.Leasts.find.Goals as goal

pub fill_leasts-requires-clause-narrow : goal.fill_leasts-requires-clause-narrow
fill_leasts-requires-clause-narrow c = c.requires.have.near c.if-not-self.false Lower

pub returns-then-not-are_of : goal.returns-then-not-are_of
returns-then-not-are_of c =
    let items = with_items_is c.args.self.now.values c.fill_leasts.new.leasts (omega (arith, c.fill_leasts.ensures.count, c.requires.have.count, c.args.self.now.values.ok.0)) in
    let values = subst (λ (l : List ℤ). AreLeasts c.args.model.now c.args.means.now c.args.plane.now.present l) (sym items) c.fill_leasts.ensures in
    record {
      have = record { count = ap length items ∙ c.fill_leasts.ensures.count; found = record { present = c.requires.plane.present; values = values }; near = c.requires.have.near };
      found = λ yes. record { some = omega (arith, c.if-n-eq0.false); near = c.requires.have.near c.if-not-self.false Upper; values = values };
    }
