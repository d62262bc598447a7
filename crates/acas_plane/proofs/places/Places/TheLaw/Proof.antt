-- A `&` to places reaches each pair that stands there. Assumes `Logic`.
use denote.Param.Laws.{param_laws}
use denote.Param.Shared.{copy_shared}
use denote.Struct.Field.{RawPtr-field}
use denote.Struct.Laws.{RawPtr-copy}
use denote.Struct.Lending.{of_Lends}
use Rattle.acas_units.specs.contracts.pair.Pair.{the_row}
use Rattle.acas_units.proofs.pair.Pair.TheLaws.{the_row_laws, the_within}
use Rattle.circular_buffer.proofs.Sharing.{cells_lent_laws, Lends-cells}
use Rattle.acas_plane.specs.Ownership.{one_pair}
use Rattle.acas_plane.specs.contracts.places.Places as C
use Rattle.acas_plane.proofs.places.Places.TheLaw.Statement.{statement}

pub shares : statement
shares = of_Lends C.struct C.the_codes C.the_heap C.the_lent
    (λ d p. cells_lent_laws one_pair (param_laws 0 the_row the_row_laws).shr_laws d.at d.slots) (copy_shared RawPtr-field RawPtr-copy, tt)
    (λ M 𝓤 𝓛 d p. Lends-cells 𝓛 C.the_row.lives one_pair (param_laws 0 the_row the_row_laws) (the_within C.the_row.lives) d.at d.slots)
