use Rattle.std.proofs.Common.{All, List, subst}
use Rattle.aud_node.specs.Logs.{written_of}
use Rattle.aud_node.specs.Meanings.{Agrees, PassOf}
use Rattle.aud_node.specs.Faults.{AreAt, HasSeats, IsFirstForeign, IsMissing}
use Rattle.aud_node.proofs.node.Node+J+Desk+J+S.close.Goals as goal

pub returns-in-Some-clause-fault : goal.returns-in-Some-clause-fault
returns-in-Some-clause-fault g c =
    let number = c.self.inside.home.head.number in
    let seat = c.in-Some.seat in
    let there : HasSeats number seat c.args.passes.items = subst (HasSeats number seat) c.deref.ensures.value c.in-Some.ensures.least.1 in
    let missing : IsMissing number seat c.args.passes.items = subst (IsMissing number seat) c.deref.ensures.value c.in-Some.ensures.missing in
    rw (← c.self.view_is) (c.in-Some.ensures.least.0, there, missing)

pub returns-in-Some-foreign-clause-fault : goal.returns-in-Some-foreign-clause-fault
returns-in-Some-foreign-clause-fault g c =
    let number = c.self.inside.home.head.number in
    let index = c.in-Some-foreign.index in
    let seats : HasSeats number c.self.inside.seats c.args.passes.items = subst (HasSeats number c.self.inside.seats) c.deref.ensures.value c.in_default.ensures.none in
    let foreign : IsFirstForeign number c.args.passes.items index = subst (λ (passes : List PassOf). IsFirstForeign number passes index) c.deref-2.ensures.value c.in-Some-foreign.ensures.some in
    rw (← c.self.view_is) (seats, foreign)

pub returns-in-Err-clause-fault : goal.returns-in-Err-clause-fault
returns-in-Err-clause-fault g c =
    let number = c.self.inside.home.head.number in
    let seats : HasSeats number c.self.inside.seats c.args.passes.items = subst (HasSeats number c.self.inside.seats) c.deref.ensures.value c.in_default.ensures.none in
    let numbers : AreAt number c.args.passes.items = subst (AreAt number) c.deref-2.ensures.value c.in_default-foreign.ensures.none in
    rw (← c.self.view_is) (seats, numbers)

pub returns-in-Ok-clause-closed : goal.returns-in-Ok-clause-closed
returns-in-Ok-clause-closed g c =
    let number = c.self.inside.home.head.number in
    let seats : HasSeats number c.self.inside.seats c.args.passes.items = subst (HasSeats number c.self.inside.seats) c.deref.ensures.value c.in_default.ensures.none in
    let numbers : AreAt number c.args.passes.items = subst (AreAt number) c.deref-2.ensures.value c.in_default-foreign.ensures.none in
    rw (← c.self.view_is) (seats, numbers)

pub returns-in-Ok-clause-passes : goal.returns-in-Ok-clause-passes
returns-in-Ok-clause-passes g c = subst (All (Agrees (written_of c.in-Ok.closed.offered.items))) c.deref-3.ensures.value c.in-Ok.ensures.passes
