-- A file that grows by a text that is given in other words.
use Rattle.std.proofs.Common.{◌≡◌, ℕ, List, ◌++◌, Option, sym, subst}
use Rattle.acas_outside.specs.Files.{Files, Grows, GrowsPart}
use Rattle.acas_outside.proofs.Grown.{grows_twice, grows_part_behind}

pub grows_as : (old new : Option Files) (name a b : List ℕ) → a ≡ b → Grows old new name b → Grows old new name a
grows_as old new name a b same grown = subst (λ (l : List ℕ). Grows old new name l) (sym same) grown

pub grows_then : (old mid new : Option Files) (name a b whole : List ℕ) → whole ≡ a ++ b → Grows old mid name a → Grows mid new name b → Grows old new name whole
grows_then old mid new name a b whole is first then = grows_as old new name whole (a ++ b) is (grows_twice old mid new name a b first then)

pub part_then : (old mid new : Option Files) (name first piece rest whole : List ℕ) → first ++ piece ++ rest ≡ whole → Grows old mid name first → GrowsPart mid new name piece → GrowsPart old new name whole
part_then old mid new name first piece rest whole is before part =
    subst (λ (l : List ℕ). GrowsPart old new name l) is (grows_part_behind old mid new name first piece rest before part)
