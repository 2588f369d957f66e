-- A text that grows by parts.
use Rattle.std.specs.Prelude.{◌≡◌, ℕ, List, ◌++◌}
use Rattle.std.proofs.Common.{◌∙◌, ap, append_assoc}

-- a part before what came after it
pub grown : (old mid new a rest : List ℕ) → mid ≡ old ++ a → new ≡ mid ++ rest → new ≡ old ++ (a ++ rest)
grown old mid new a rest first more = more ∙ ap (λ (l : List ℕ). l ++ rest) first ∙ append_assoc old a rest
