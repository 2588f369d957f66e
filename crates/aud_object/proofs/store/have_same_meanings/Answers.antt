use Rattle.std.proofs.Common.{refl}
use Rattle.aud_object.specs.States.{meaning}
use Rattle.aud_object.proofs.Places.{same-rests}
use Rattle.aud_object.proofs.store.have_same_meanings.Goals as goal

pub loop-s-preserved : goal.loop-s-preserved
loop-s-preserved g c =
    let at = c.loop-s in
    let rests = same-rests meaning at.x.now at.y.now c.in-Some.x_rest.now c.in-Some-split_first.y_rest.now c.in-Some.s.now c.in-Some-split_first.t.now c.in-Some.ensures.cases.0 c.in-Some-split_first.ensures.cases.0 (c.if-not-same.ensures.0 refl) in record {
      on = λ all. rests.0 (at.invariant.on all);
      back = λ left. at.invariant.back (rests.1 left);
    }
