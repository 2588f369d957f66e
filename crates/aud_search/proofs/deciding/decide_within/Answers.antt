use Rattle.std.specs.Prelude.{[]}
use Rattle.std.proofs.Common.{subst, ◌∙◌}
use Rattle.aud_witness.specs.Orders.{Refuted}
use Rattle.aud_order.specs.Shapes.{objects_of, history_of}
use Rattle.aud_search.proofs.deciding.decide_within.Goals as goal

pub returns-in-Refuted-clause-decided : goal.returns-in-Refuted-clause-decided
returns-in-Refuted-clause-decided c =
    let objects = objects_of c.args.shape.now in
    let h = history_of c.args.shape.now in
    let refuted : Refuted objects h [] = subst (Refuted objects h) (c.decisions.ensures ∙ c.empty-empty.ensures) (rw c.in-Refuted.is at c.in_ok-witness.ensures.reported) in
    λ opaque. refuted opaque.0 opaque.1
