use Rattle.std.proofs.Common.{refl, subst, ◌∙◌}
use Rattle.std.specs.Fmt.{decimal}
use Rattle.sha2.proofs.Facts256.{length-sha256}
use Rattle.acas_spec.specs.Model.{ModelData}
use Rattle.acas_drill.specs.Calls.{AreDrilled}
use Rattle.acas_drill.proofs.drill_command.line_up.Goals as goal

pub drill_table-requires : goal.drill_table-requires
drill_table-requires g c = rw c.requires.digest (length-sha256 (decimal c.args.number))

pub returns : goal.returns
returns g c =
    let counts = c.in_ok-counts.counts in
    let drilled : AreDrilled c.args.found.now.model counts = record {
      advices = c.in_ok-table.table.advices;
      fits = c.in_ok-table.ensures.fits;
      tabled = c.in_ok-table.ensures.tabled;
      counted = c.in_ok-counts.ensures;
    } in
    record {
      counts = counts;
      drilled = subst (λ (m : ModelData). AreDrilled m counts) c.requires.model drilled;
      count = refl;
      is = c.write_lines.ensures ∙ rw (c.grid.ensures.value, c.requires.model) refl;
    }
