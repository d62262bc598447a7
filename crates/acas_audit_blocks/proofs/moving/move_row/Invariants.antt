use Rattle.acas_audit_blocks.specs.Audits.{AreMoved}
use Rattle.acas_audit_blocks.proofs.moving.move_row.Given as goal

abbrev pub invariant-loop-place : goal.invariant-loop-place
invariant-loop-place l = record { moved : AreMoved l.advice l.start l.place l.initial.list l.list }
