use Rattle.std.proofs.Common.{◌∙◌, arith}
use Rattle.aud_object.proofs.Places.{executed-more}
use Rattle.aud_object.proofs.store.Store.run.Goals as goal

pub loop-x-preserved : goal.loop-x-preserved
loop-x-preserved g c =
    let at = c.loop-x in
    let reported = c.in_ok-step.ensures in record {
      past = reported.past ∙ at.invariant.past;
      left = at.invariant.left ∙ executed-more at.self.now c.step.new.self.now c.args.executions.now at.x-index _ c.in_ok-step.field-0 (omega arith) reported.right c.if-not-branch.false reported.after;
    }
