-- Pieces of a line that are appended one after the other.
use Rattle.std.proofs.Common.{◌≡◌, ℕ, List, ◌++◌, ◌∙◌, ap, append_assoc}

-- what was appended and one piece more
pub one_piece_more : (old pieces more before after : List ℕ) → before ≡ old ++ pieces → after ≡ before ++ more → after ≡ old ++ (pieces ++ more)
one_piece_more old pieces more before after so_far then =
    then ∙ ap (λ (l : List ℕ). l ++ more) so_far ∙ append_assoc old pieces more
