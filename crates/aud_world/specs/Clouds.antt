-- The atoms of nodes and packets.
use Rattle.std.specs.Prelude.{◌≡◌, ℕ, zero, suc, List, [], ◌∷◌, ◌++◌, map}
use Rattle.aud_event.specs.Meanings.{PlanOf}
use Rattle.aud_know.specs.Known.{KnownAtom, KnowledgeOf, knowing}

-- what each node was fed, found, or got in packets; and what its sender had of these when a packet was posted
pub record Cloud : Type 0 where
  pub nodes : List (List KnownAtom)
  pub packets : List (List KnownAtom)

-- what stands at a place, or nothing
abbrev pub at_place : List (List KnownAtom) → ℕ → List KnownAtom
at_place [] n = []
at_place (xs ∷ xss) zero = xs
at_place (xs ∷ xss) (suc n) = at_place xss n

-- more atoms at one place
abbrev pub gain : ℕ → List KnownAtom → List (List KnownAtom) → List (List KnownAtom)
gain n more [] = []
gain zero more (xs ∷ xss) = (xs ++ more) ∷ xss
gain (suc n) more (xs ∷ xss) = xs ∷ gain n more xss

-- one Knowledge of a list takes atoms
abbrev pub Gains : ℕ → List KnownAtom → List KnowledgeOf → List KnowledgeOf → Type 0
Gains n more old new =
    (plan : PlanOf) (xss : List (List KnownAtom)) → old ≡ map (knowing plan) xss → new ≡ map (knowing plan) (gain n more xss)
