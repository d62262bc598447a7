use Rattle.std.proofs.Common.{◌≡◌, ◌<◌, Some, None, sym, ◌∙◌, arith}
use Rattle.acas_meeting_search.specs.Stages.{next_of}
use Rattle.acas_meeting_search.proofs.Chains.{ends_here, ends_later, fewer_after, missed_then, never_missed_last, passes_after}
use Rattle.acas_meeting_search.proofs.search.+search_from.Goals as goal

pub search_from-requires : goal.search_from-requires
search_from-requires t c =
    let is : next_of c.args.stage ≡ Some c.in-Some-next.next = sym c.next.ensures ∙ c.in-Some-next.is in
    let fall : passes_after c.in-Some-next.next < t = omega (arith, fewer_after c.args.stage c.in-Some-next.next is, c.decreases) in
    (fall, (missed_then c.args.pursuit.now c.args.stage c.in-Some-next.next is c.in-None.ensures, c.requires.last))

pub unreachable-requires : goal.unreachable-requires
unreachable-requires t c =
    let is : next_of c.args.stage ≡ None = sym c.next.ensures ∙ c.in-None-next.is in
    never_missed_last c.args.pursuit.now c.args.stage is c.requires.last c.in-None.ensures

pub returns-in-Some : goal.returns-in-Some
returns-in-Some t c = ends_here c.args.pursuit.now c.args.stage _ c.in-Some.ensures

pub returns-in-Some-next : goal.returns-in-Some-next
returns-in-Some-next t c =
    let is : next_of c.args.stage ≡ Some c.in-Some-next.next = sym c.next.ensures ∙ c.in-Some-next.is in
    ends_later c.args.pursuit.now c.args.stage c.in-Some-next.next _ is c.in-None.ensures c.search_from.ensures
