use Rattle.std.proofs.Common.{◌+◌, ◌≡◌, length}
use Rattle.std.specs.Fmt.{decimal}
use Rattle.acas_outside.proofs.line.digit_count.Given as goal

-- the digits that were counted, and those of what is left
abbrev pub invariant-loop-left : goal.invariant-loop-left
invariant-loop-left l = l.count + length (decimal l.left) ≡ length (decimal l.fn.n)

abbrev pub decreases-loop-left : goal.decreases-loop-left
decreases-loop-left l = l.left
