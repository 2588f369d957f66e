-- What lines rest on, over the objects and the history of one shape.
use Rattle.std.specs.Prelude.{List, ◌++◌, ◌∷◌, []}
use Rattle.std.specs.List.{Contains}
use Rattle.aud_witness.specs.declared.decision.Decision.{Decision}
use Rattle.aud_witness.specs.Orders.{IsGood}
use Rattle.aud_order.specs.Shapes.{ShapeOf, objects_of, history_of}
use Rattle.cert_earlier.specs.Resting.{HasEarlierKids, HasEarlierSilent, HasSame}
use Rattle.cert_earlier.specs.Moves.{StaysBefore}

-- each of the prefixes is good
abbrev pub AreGoodFor : ShapeOf → List (List Decision) → Type 0
AreGoodFor s ps = (p : List Decision) → Contains ps p → IsGood (objects_of s) (history_of s) p

-- p followed by each of the decisions is the prefix of an earlier line
abbrev pub HasLines : List (List Decision) → List Decision → List Decision → Type 0
HasLines earlier p ds = (d : Decision) → Contains ds d → Contains earlier (p ++ d ∷ [])

abbrev pub HasKidsFor : ShapeOf → List (List Decision) → List Decision → Type 0
HasKidsFor s earlier p = HasEarlierKids (objects_of s) (history_of s) earlier p

abbrev pub HasSilentFor : ShapeOf → List (List Decision) → List Decision → Decision → Type 0
HasSilentFor s earlier p d = HasEarlierSilent (objects_of s) (history_of s) earlier p d

abbrev pub HasSameFor : ShapeOf → List (List Decision) → List Decision → List Decision → Type 0
HasSameFor s earlier p q = HasSame (objects_of s) (history_of s) earlier p q

abbrev pub StaysBeforeFor : ShapeOf → List Decision → List Decision → Type 0
StaysBeforeFor s ds path = StaysBefore (objects_of s) (history_of s) ds path
