-- The words of acceptance over the objects and the history of one shape.
use Rattle.std.specs.Prelude.{◌≡◌, Bool, List}
use Rattle.aud_witness.specs.declared.decision.Decision.{Decision}
use Rattle.aud_order.specs.Shapes.{ShapeOf, objects_of, history_of}
use Rattle.cert_accept.specs.declared.cert.CertLine.{CertLine}
use Rattle.cert_accept.specs.declared.cert.CertLine.TheVariants.{Kids, Silent, Same}
use Rattle.cert_accept.specs.Acceptance.{IsAcceptedLine, JudgesLine}

abbrev pub JudgesLineFor : {X : Type 0} → ShapeOf → List (List Decision) → CertLine X → Bool → Type 0
JudgesLineFor s earlier line told = JudgesLine (objects_of s) (history_of s) earlier line told

abbrev pub IsAcceptedFor : {X : Type 0} → ShapeOf → List (List Decision) → CertLine X → Type 0
IsAcceptedFor s earlier line = IsAcceptedLine (objects_of s) (history_of s) earlier line

-- of a line whose kids refute its prefix, the path is that prefix
abbrev pub StaysAtKids : {X : Type 0} → CertLine X → List Decision → Type 0
StaysAtKids (Kids p) path = path ≡ p
StaysAtKids (Silent _ _) path = Unit {0}
StaysAtKids (Same _ _) path = Unit {0}
