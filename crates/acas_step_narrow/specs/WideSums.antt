-- Sums of raised values in 128 bits.
use Rattle.acas_step_narrow.specs.declared.wide_sums.WideSums.{WideSums}
use Rattle.acas_step_narrow.specs.declared.raised.Raised.{Raised}

-- the two sums, as two raised numbers
abbrev pub as_raised : WideSums → Raised
as_raised sums = record { upper = sums.upper; lower = sums.lower }
