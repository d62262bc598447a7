use Rattle.acas_safeable.proofs.Later.{ends_in_cell}
use Rattle.acas_safeable.proofs.laws.certified_cells_keep_safe.Goals as goal

pub returns : goal.returns
returns c = λ m n i j k i' j' k' advisory q s next first second is within later.
    ends_in_cell m n i j k advisory q s first second is i' j' k' next later
