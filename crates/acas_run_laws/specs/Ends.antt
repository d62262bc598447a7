-- How a run ends.
use Rattle.std.specs.Prelude.{◌≡◌, ◌⊎◌, ◌-◌, ◌^◌, ◌<◌}
use Rattle.acas_outside.specs.Outside.{Outside}
use Rattle.acas_command.specs.Codes.{code_of}
use Rattle.acas_command.specs.declared.status.Cause.{Cause}

-- from one moment to another no call of the folder or of the output failed: neither count rose, nor stands at its end
pub record HasNoFault (before after : Outside) : Type 0 where
  pub folder : after.faults ≡ before.faults
  pub folder_room : before.faults < 2 ^ 64 - 1
  pub output : after.output_faults ≡ before.output_faults
  pub output_room : before.output_faults < 2 ^ 64 - 1

-- with the exit code 0 or 12
abbrev pub EndsDone : Cause → Type 0
EndsDone cause = (code_of cause ≡ 0) ⊎ (code_of cause ≡ 12)

-- with the exit code 0, 1 or 12
abbrev pub EndsWell : Cause → Type 0
EndsWell cause = (code_of cause ≡ 0) ⊎ ((code_of cause ≡ 1) ⊎ (code_of cause ≡ 12))
