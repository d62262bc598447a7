use Rattle.std.proofs.Common.{◌≡◌, ◌+◌, List, length, rules, subst, sym, arith}
use Rattle.std.proofs.lemmas.Grind.{common_steps}
use Rattle.acas_spec.specs.Model.{choices_at}
use Rattle.acas_units.specs.declared.pair.Entry.{Entry}
use Rattle.acas_sweep.specs.Best.{IsBest}
use Rattle.acas_means.specs.Columns.{pairs_at}
use Rattle.acas_sweep.proofs.BestEntries.{best_under_two}
use Rattle.acas_sweep.proofs.entries.write_two.Goals as goal

pub best_of_two-two-requires-clause-priced : goal.best_of_two-two-requires-clause-priced
best_of_two-two-requires-clause-priced c = record { list = c.requires.priced.list; means = c.requires.priced.means.each c.args.place (omega (arith, c.requires.inside)) }

pub best_of_two-two-requires-clause-next : goal.best_of_two-two-requires-clause-next
best_of_two-two-requires-clause-next c = c.requires.priced.means.each (c.args.place + 1) c.requires.inside

pub returns-clause-best : goal.returns-clause-best
returns-clause-best c =
    let m = c.args.model.now in
    let p = c.args.present in
    let place = c.args.place in
    let means = c.args.means.now in
    let lists : List (List Entry) = c.args.entries.now in
    let two = c.best_of_two-two in
    let long : length lists ≡ 129 = search rules in
    best_under_two m means p place lists c.put_entry.new.entries c.put_entry-2.new.entries (omega (arith, long, c.requires.inside, c.grid.ensures.valid)) c.requires.so_far
    (subst (λ (e : Entry). IsBest m (pairs_at means place) p (choices_at m p) e) (sym c.put_entry.ensures.written) two.ensures.first)
    (subst (λ (e : Entry). IsBest m (pairs_at means (place + 1)) p (choices_at m p) e) (sym c.put_entry-2.ensures.written) two.ensures.second)

pub returns-clause-others : goal.returns-clause-others
returns-clause-others c = grind (arith, common_steps)
