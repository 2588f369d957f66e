-- What a history is certified by, and what an accepted certificate finds.
use Rattle.std.specs.Prelude.{◌≡◌, List, [], Option, Some, None}
use Rattle.aud_witness.specs.Orders.{Opaque}
use Rattle.aud_order.specs.Shapes.{ShapeOf, objects_of, history_of}
use Rattle.aud_know.specs.Norms.{refuted}
use Rattle.aud_know.specs.Findings.{FindingOf}
use Rattle.cert_accept.specs.Acceptance.{IsAccepted}
use Rattle.cert_accept.specs.declared.cert.Cert.{Cert}
use Rattle.cert_accept.specs.declared.cert.CertLine.{CertLine}

module _ {X : Type 0} where
  -- none where some order shows the history, and else an accepted certificate that none does
  abbrev pub IsCertified : ShapeOf → Option (Cert X) → Type 0
  IsCertified s None = Opaque (objects_of s) (history_of s)
  IsCertified s (Some cert) = IsAccepted (objects_of s) (history_of s) cert.lines.items × (Opaque (objects_of s) (history_of s) → ⊥)

  -- that the empty prefix is refuted: exactly where the lines are accepted
  abbrev pub IsFoundBy : ShapeOf → List (CertLine X) → Option FindingOf → Type 0
  IsFoundBy s lines None = IsAccepted (objects_of s) (history_of s) lines → ⊥
  IsFoundBy s lines (Some finding) = IsAccepted (objects_of s) (history_of s) lines × (finding ≡ record { facts = s.sealed.facts; claim = refuted [] })
