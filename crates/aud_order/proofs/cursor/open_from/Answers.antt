use Rattle.std.proofs.Common.{sym, ◌∙◌}
use Rattle.aud_order.proofs.Opens.{placed-more}
use Rattle.aud_order.proofs.cursor.open_from.Goals as goal

pub loop-open-preserved : goal.loop-open-preserved
loop-open-preserved g c = placed-more c.args.placing.now.configuration.placed c.loop-open.open c.loop-open.invariant (sym c.has_row.ensures ∙ c.if-has_row.true)
