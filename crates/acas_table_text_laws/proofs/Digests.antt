-- Behind a wrong digest no entry is without fault.
use Rattle.std.proofs.Common.{◌≡◌, ℕ, ◌+◌, ◌*◌, ◌≤◌, List, [], ◌∷◌, None, Some, sym, ◌∙◌, ap, arith}
use Rattle.acas_table_text.specs.Shape.{IsShape}
use Rattle.acas_table_text.specs.Format.{ended_group, format_of, group_size}
use Rattle.acas_table_text.specs.Faults.{bytes_fault, digest_fault, ended_fault, entry_fault, first_below}
use Rattle.acas_table_text.specs.declared.shape.TableShape.{TableShape}
use Rattle.acas_table_text.proofs.Nones.{each_none, first_none}
use Rattle.acas_table_text.proofs.Groups.{ended-at, some_group}

-- an entry without fault stands behind a digest without fault
pub ended_none : (s : TableShape) (bytes : List ℕ) (i k : ℕ) → entry_fault s bytes i ≡ None → ended_group (format_of bytes) s i ≡ Some k → digest_fault s bytes k ≡ None
unfolding entry_fault
ended_none s bytes i k none ended =
    sym (ap (ended_fault s bytes) ended) ∙ (first_none (ended_fault s bytes (ended_group (format_of bytes) s i)) (bytes_fault s bytes i ∷ []) none).0

-- the digest of a group is without fault where the entries up to one behind it are
pub digest_before : (s : TableShape) (bytes : List ℕ) (k i : ℕ) → IsShape s → (k + 1) * group_size (format_of bytes) s ≤ i → first_below (entry_fault s bytes) (i + 1) ≡ None → digest_fault s bytes k ≡ None
digest_before s bytes k i shape behind none =
    let f = format_of bytes in
    let at : ℕ = (k + 1) * group_size f s in
    ended_none s bytes at k (each_none (entry_fault s bytes) (i + 1) at none (omega arith)) (ended-at (group_size f s) k at (some_group f s shape) (omega arith))
