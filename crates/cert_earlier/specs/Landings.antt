-- Where a prefix leads, in a few numbers.
use Rattle.std.specs.Prelude.{◌≡◌, List, [], ◌∷◌, map, length}
use Rattle.base_bits.specs.Marked.{marks_of}
use Rattle.aud_object.specs.States.{numbered}
use Rattle.aud_kinds.specs.Objects.{opening_of}
use Rattle.aud_object.specs.Executions.{states_after}
use Rattle.aud_history.specs.Table.{transactions}
use Rattle.aud_witness.specs.declared.decision.Decision.{Decision}
use Rattle.aud_witness.specs.Orders.{is_named, kept}
use Rattle.aud_order.specs.Shapes.{ShapeOf, objects_of, history_of}
use Rattle.cert_earlier.specs.declared.landing.Landing.{Landing}

-- the landing has the marks of the transactions that p names, and the states of all objects after what is kept of p
pub record IsLandingOf (shape : ShapeOf) (p : List Decision) (l : Landing) : Type 0 where
  pub placed : map (is_named p) (transactions (history_of shape)) ≡ marks_of (l.placed ∷ []) (length (transactions (history_of shape)))
  pub states : map numbered l.states.items ≡ states_after (map opening_of (objects_of shape)) (kept (history_of shape) p)
