use Rattle.std.proofs.Common.{[], ◌∷◌, Option, Some, ap, subst, arith}
use Rattle.acas_outside.specs.Files.{Files}
use Rattle.acas_outside.specs.Once.{TakesOnce, length_of_file}
use Rattle.acas_table.specs.Source.{StaysWithin}
use Rattle.acas_run_laws.proofs.reading.tables_are_taken_once.Goals as goal

pub returns : goal.returns
returns g c = record {
  held = λ old new name bytes files s most told there.
      let once : TakesOnce (name ∷ []) (Some files) (g.F.Folder.taken old) (g.F.Folder.taken new) =
      subst (λ (h : Option Files). TakesOnce (name ∷ []) h (g.F.Folder.taken old) (g.F.Folder.taken new)) told most.once in
      omega (arith, once, ap length_of_file there);
  absent = λ old new name files s most told none.
      let once : TakesOnce (name ∷ []) (Some files) (g.F.Folder.taken old) (g.F.Folder.taken new) =
      subst (λ (h : Option Files). TakesOnce (name ∷ []) h (g.F.Folder.taken old) (g.F.Folder.taken new)) told most.once in
      omega (arith, once, ap length_of_file none);
  reads_on = λ old new name bytes files before now result leaves told there inside.
      let within = subst (λ (h : Option Files). StaysWithin h name before.taken now.taken) told leaves.within in
      omega (arith, within.told (omega (arith, inside, ap length_of_file there)), ap length_of_file there);
}
