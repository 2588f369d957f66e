use Rattle.std.specs.Prelude.{◌≡◌, true, false}
use Rattle.std.proofs.Common.{sym, subst}
use Rattle.aud_witness.specs.OrderFaults.{is_good_next}
use Rattle.aud_order.specs.Shapes.{objects_of, history_of}
use Rattle.aud_order.specs.Cursors.{CursorOf}
use Rattle.aud_order.proofs.KidLemmas.{good-from_none, bad-from_fault}
use Rattle.aud_order.proofs.Standing.{fault-ok, fault-err}
use Rattle.aud_order.proofs.cursor.Cursor.is_good.Goals as goal

pub returns-in-Ok-clause-good : goal.returns-in-Ok-clause-good
returns-in-Ok-clause-good g c =
    let i = c.self.inside in
    let placed = rw c.in-Ok.is at c.in_ok-place.ensures.placed in
    let good = good-from_none (objects_of i.shape.now) (history_of i.shape.now) i.placing.path c.args.decision (fault-ok i.shape.now i.placing c.place.new.self i.first_open c.args.decision c.self.invariant placed) in
    sym (subst (λ (w : CursorOf). is_good_next (objects_of w.shape) (history_of w.shape) w.path c.args.decision ≡ true) c.self.view_is good)

pub returns-in-Err-clause-good : goal.returns-in-Err-clause-good
returns-in-Err-clause-good g c =
    let i = c.self.inside in
    let reported = rw c.in-Err.is at c.in_ok-place.ensures.placed in
    let bad = bad-from_fault (objects_of i.shape.now) (history_of i.shape.now) i.placing.path c.args.decision c.in-Err.field-0 (fault-err i.shape.now i.placing i.first_open c.args.decision c.in-Err.field-0 c.self.invariant reported.0) in
    sym (subst (λ (w : CursorOf). is_good_next (objects_of w.shape) (history_of w.shape) w.path c.args.decision ≡ false) c.self.view_is bad)
