use Rattle.std.proofs.Common.{subst}
use Rattle.aud_history.specs.WellFormed.{IsWellFormed}
use Rattle.aud_order.specs.Shapes.{ShapeOf, history_of}
use Rattle.aud_order.proofs.shape.Shape.history.Goals as goal

pub returns-clause-sound : goal.returns-clause-sound
returns-clause-sound g c = subst (λ (s : ShapeOf). IsWellFormed (history_of s)) c.self.view_is c.self.invariant.1
