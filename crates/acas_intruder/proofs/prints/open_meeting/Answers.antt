use Rattle.std.proofs.Common.{◌++◌}
use Rattle.std.proofs.lemmas.List.Elements.{All-append}
use Rattle.acas_frac.specs.Fraction.{IsReduced}
use Rattle.acas_rulings.specs.Printed.{fractions_of, some_part}
use Rattle.acas_witness_response.proofs.LowestTerms.{fractions, fractions_append}
use Rattle.acas_intruder.proofs.prints.open_meeting.Goals as goal

pub returns : goal.returns
returns c =
    let m = c.args.meeting.now in
    All-append IsReduced (fractions_of m.witness) (fractions (some_part m.intruder_first ++ some_part m.intruder_second)) c.open_witness.ensures
    (fractions_append (some_part m.intruder_first) (some_part m.intruder_second) c.open_part.ensures c.open_part-2.ensures)
