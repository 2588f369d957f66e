use Rattle.std.specs.Prelude.{Option, Some}
use Rattle.std.proofs.Common.{subst}
use Rattle.aud_order.specs.Cursors.{CursorOf, IsCursorAfter}
use Rattle.aud_search.proofs.Shown.{shown}
use Rattle.aud_search.proofs.learning.tried.Goals as goal

pub returns : goal.returns
returns c =
    let after : IsCursorAfter c.args.shape.now c.args.decisions.now (Some c.in-Some.cursor) =
    subst (λ (o : Option CursorOf). IsCursorAfter c.args.shape.now c.args.decisions.now o) c.in-Some.is c.in_ok-cursor.ensures in
    shown c.shows_is_full_and_good.ensures c.args.shape.now c.args.decisions.now c.in_ok-copy_of.field-0 c.in-Some.cursor after (c.full.ensures.0 c.if-not-full.false) c.in_ok-copy_of.ensures
