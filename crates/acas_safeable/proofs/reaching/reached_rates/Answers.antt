use Rattle.std.proofs.Common.{◌∙◌}
use Rattle.acas_areas.specs.Limits.{interval_of}
use Rattle.acas_areas.specs.View.{demand_in}
use Rattle.acas_safeable.proofs.RateEnds.{ends_in_order, greatest, greatest_reached, greatest_size, least, least_reached, least_size}
use Rattle.acas_safeable.proofs.reaching.reached_rates.Goals as goal

pub new-requires : goal.new-requires
new-requires c =
    let a = c.args.asked.now in
    let o = c.args.own in
    ends_in_order _ _ o.least o.greatest _ _
    (least c.min.result c.max.result a.lo o.least a.limit a.within.lo c.requires.least a.within.limit c.max.ensures.value c.min.ensures.value)
    (greatest c.max-2.result c.min-2.result a.hi o.greatest a.limit a.within.hi c.requires.greatest a.within.limit c.min-2.ensures.value c.max-2.ensures.value)
    o.ordered

pub returns-clause-least : goal.returns-clause-least
returns-clause-least c =
    let a = c.args.asked.now in
    c.new.ensures.least ∙ least_reached (demand_in a) (interval_of c.args.own) a.within c.min.result c.max.result c.requires.least c.max.ensures.value c.min.ensures.value

pub returns-clause-greatest : goal.returns-clause-greatest
returns-clause-greatest c =
    let a = c.args.asked.now in
    c.new.ensures.greatest ∙ greatest_reached (demand_in a) (interval_of c.args.own) a.within c.max-2.result c.min-2.result c.requires.greatest c.min-2.ensures.value c.max-2.ensures.value

pub returns-clause-size : goal.returns-clause-size
returns-clause-size c =
    let a = c.args.asked.now in
    let o = c.args.own in
    record {
      least = least_size _ a.lo o.least a.limit _
          (c.new.ensures.least ∙ least c.min.result c.max.result a.lo o.least a.limit a.within.lo c.requires.least a.within.limit c.max.ensures.value c.min.ensures.value)
          a.within.lo c.requires.least;
      greatest = greatest_size _ a.hi o.greatest a.limit _
          (c.new.ensures.greatest ∙ greatest c.max-2.result c.min-2.result a.hi o.greatest a.limit a.within.hi c.requires.greatest a.within.limit c.min-2.ensures.value c.max-2.ensures.value)
          a.within.hi c.requires.greatest;
    }
