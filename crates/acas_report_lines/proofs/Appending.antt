-- One text after another.
use Rattle.std.proofs.Common.{◌≡◌, ℕ, List, ◌++◌, ◌∙◌, ap, append_assoc}

-- what is appended to a line in two steps
pub next : (old mid new a b : List ℕ) → mid ≡ old ++ a → new ≡ mid ++ b → new ≡ old ++ (a ++ b)
next old mid new a b first then = then ∙ ap (λ (l : List ℕ). l ++ b) first ∙ append_assoc old a b
