-- A full prefix that a cursor reaches shows the history.
use Rattle.std.specs.Prelude.{◌≡◌, List}
use Rattle.std.proofs.Common.{sym, subst}
use Rattle.aud_witness.specs.declared.decision.Decision.{Decision}
use Rattle.aud_witness.specs.Orders.{IsFull, IsGood, Shows}
use Rattle.aud_witness.specs.Laws.{ShowsIsFullAndGood}
use Rattle.aud_order.specs.Shapes.{ShapeOf, objects_of, history_of}
use Rattle.aud_order.specs.Cursors.{CursorOf}

-- a copy of the prefix after which the cursor stands, where it is full
pub shown : ShowsIsFullAndGood → (s : ShapeOf) (p q : List Decision) (c : CursorOf) → (c ≡ record { shape = s; path = p }) × IsGood (objects_of s) (history_of s) p →
    IsFull (history_of c.shape) c.path → q ≡ p → Shows (objects_of s) (history_of s) q
shown law s p q c after full is =
    let whole : IsFull (history_of s) p = subst (λ (d : CursorOf). IsFull (history_of d.shape) d.path) after.0 full in
    subst (λ (l : List Decision). Shows (objects_of s) (history_of s) l) (sym is) ((law (objects_of s) (history_of s) p).1 (whole, after.1))
