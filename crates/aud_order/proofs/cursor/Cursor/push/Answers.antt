use Rattle.std.specs.Prelude.{◌≡◌, None, Some}
use Rattle.std.proofs.Common.{sym, ◌∙◌, ap, subst}
use Rattle.aud_witness.specs.OrderFaults.{place_fault}
use Rattle.aud_order.specs.Shapes.{objects_of, history_of}
use Rattle.aud_order.specs.Cursors.{CursorOf, pushed_by}
use Rattle.aud_order.proofs.Standing.{fault-ok, fault-err, good-reported, bad-reported}
use Rattle.aud_order.proofs.cursor.Cursor.push.Goals as goal

pub returns-in-Ok-clause-reported : goal.returns-in-Ok-clause-reported
returns-in-Ok-clause-reported g c =
    let i = c.self.inside in
    let placed = rw c.in-Ok.is at c.in_ok-place.ensures.placed in
    let none = fault-ok i.shape.now i.placing c.place.new.self i.first_open c.args.decision c.self.invariant placed in
    sym (ap pushed_by (subst (λ (w : CursorOf). place_fault (objects_of w.shape) (history_of w.shape) w.path c.args.decision ≡ None) c.self.view_is none))

pub returns-in-Ok-clause-good : goal.returns-in-Ok-clause-good
returns-in-Ok-clause-good g c =
    let i = c.self.inside in
    let placed = rw c.in-Ok.is at c.in_ok-place.ensures.placed in
    let none = fault-ok i.shape.now i.placing c.place.new.self i.first_open c.args.decision c.self.invariant placed in
    good-reported (objects_of c.args.self.now.shape) (history_of c.args.self.now.shape) c.args.self.now.path c.args.decision
    (subst (λ (w : CursorOf). place_fault (objects_of w.shape) (history_of w.shape) w.path c.args.decision ≡ None) c.self.view_is none)

pub returns-in-Err-clause-reported : goal.returns-in-Err-clause-reported
returns-in-Err-clause-reported g c =
    let i = c.self.inside in
    let reported = rw c.in-Err.is at c.in_ok-place.ensures.placed in
    let some = fault-err i.shape.now i.placing i.first_open c.args.decision c.in-Err.fault c.self.invariant reported.0 in
    c.of_fault.ensures ∙ sym (ap pushed_by (subst (λ (w : CursorOf). place_fault (objects_of w.shape) (history_of w.shape) w.path c.args.decision ≡ Some c.in-Err.fault) c.self.view_is some))

pub returns-in-Err-clause-good : goal.returns-in-Err-clause-good
returns-in-Err-clause-good g c =
    let i = c.self.inside in
    let reported = rw c.in-Err.is at c.in_ok-place.ensures.placed in
    let some = fault-err i.shape.now i.placing i.first_open c.args.decision c.in-Err.fault c.self.invariant reported.0 in
    bad-reported (objects_of c.args.self.now.shape) (history_of c.args.self.now.shape) c.args.self.now.path c.args.decision c.in-Err.fault c.of_fault.result c.of_fault.ensures
    (subst (λ (w : CursorOf). place_fault (objects_of w.shape) (history_of w.shape) w.path c.args.decision ≡ Some c.in-Err.fault) c.self.view_is some)
