use Rattle.std.specs.Prelude.{List, [], ◌++◌}
use Rattle.std.proofs.Common.{subst}
use Rattle.aud_witness.specs.declared.decision.Decision.{Decision}
use Rattle.aud_witness.specs.Orders.{Shows, Refuted}
use Rattle.aud_order.specs.Shapes.{ShapeOf, objects_of, history_of}
use Rattle.aud_cert.proofs.finding.finding_of.Goals as goal

pub refuted-requires : goal.refuted-requires
refuted-requires g c rest shows =
    let shape = c.args.shape.value in
    subst (λ (s : ShapeOf). Refuted (objects_of s) (history_of s) []) c.deref.ensures (c.in_ok-check_cert.ensures.refuted c.if-not-branch.false)
    rest (subst (λ (l : List Decision). Shows (objects_of shape) (history_of shape) (l ++ rest)) c.empty.ensures shows)
