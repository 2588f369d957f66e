-- What the search below one task finds.
use Rattle.std.specs.Prelude.{◌≡◌, ◌⊎◌, ℕ, List, Option, Some, None}
use Rattle.aud_witness.specs.declared.decision.Decision.{Decision}
use Rattle.aud_witness.specs.Prefixes.{BeginsWith}
use Rattle.aud_order.specs.Shapes.{ShapeOf, objects_of, history_of}
use Rattle.search_prefix.specs.Searches.{SpentBy}
use Rattle.aud_know.specs.Norms.{refuted, shown}
use Rattle.aud_know.specs.Known.{KnownAtom}
use Rattle.aud_know.specs.Findings.{FindingOf}

-- what is said of the history by a search below t: t is refuted, or an order shows the history that begins with t
abbrev pub SaysOf : List Decision → KnownAtom → Type 0
SaysOf t atom = (atom ≡ refuted t) ⊎ ((q : List Decision) × ((atom ≡ shown q) × BeginsWith t q))

-- what the search below t found: a finding of the shape's history; or nothing, and the budget is spent
abbrev pub IsFound : ShapeOf → ℕ → List Decision → Option FindingOf → Type 0
IsFound s budget t None = SpentBy (objects_of s) (history_of s) t budget
IsFound s budget t (Some f) = (f.facts ≡ s.sealed.facts) × SaysOf t f.claim
