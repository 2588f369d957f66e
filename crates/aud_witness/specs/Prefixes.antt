-- Beginnings of orders.
use Rattle.std.specs.Prelude.{◌≡◌, List, ◌++◌}
use Rattle.aud_witness.specs.declared.decision.Decision.{Decision}

-- q begins with p
abbrev pub BeginsWith : List Decision → List Decision → Type 0
BeginsWith p q = (rest : List Decision) × (q ≡ p ++ rest)
