use Rattle.std.proofs.Common.{Some, ap, ◌∙◌}
use Rattle.std.proofs.lemmas.Int.{to_z-of_z}
use Rattle.std.specs.Int.{w64}
use Rattle.aud_event.specs.declared.fact.Event.TheVariants.{Inv}
use Rattle.aud_text.proofs.Spelling.{argued_is}
use Rattle.aud_text.proofs.spelled.argued.Goals as goal

pub returns-clause-spelled : goal.returns-clause-spelled
returns-clause-spelled g c =
    let passed = to_z-of_z w64 c.in_ok-first.first c.in_ok-first.ensures.fits in
    argued_is c.args.plan.now
    (record { log = c.in_ok-log.log; at = c.in_ok-at.at; stamp = c.in_ok-stamp.stamp; tx = c.in_ok-stamp.tx; event = Inv c.in_ok-object.object c.in_ok-op.op })
    c.in_ok-object.object c.in_ok-op.op c.in_ok-object.name c.in_ok-first.first c.in_ok-args.args c.args.line.now c.in_ok-digits.digits.now c.in_ok-first.rest.now c.in_ok-after.field-0.now c.in_ok-at.rest.now c.in_ok-log.rest.now
    c.in_ok-object.rest.now c.in_ok-stamp.rest.now c.in_ok-op.ensures.name c.in_ok-op.ensures.args (c.in_ok-args.ensures.first ∙ ap Some passed) c.in_ok-digits.ensures c.in_ok-first.ensures.spelled c.in_ok-after.ensures c.in_ok-at.ensures c.in_ok-log.ensures
    c.in_ok-object.ensures c.in_ok-stamp.ensures c.in_ok-args.ensures.spelled
