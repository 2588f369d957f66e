use Rattle.std.proofs.Common.{◌≡◌, ◌∷◌, ◌++◌, take, flat_map}
use Rattle.aud_text.specs.Orders.{decision_text}
use Rattle.aud_text.proofs.order.push_more.Given as goal

abbrev pub invariant-loop-decision : goal.invariant-loop-decision
invariant-loop-decision g l = l.text.items ≡ l.initial.text.items ++ flat_map (λ d. 32 ∷ decision_text d) (take l.decision-index l.decisions)
