use Rattle.aud_event.proofs.Names.{number_of-own}
use Rattle.aud_text.proofs.Spelling.{spelled_reads}
use Rattle.aud_text.proofs.spelled.fact_spelled.Goals as goal

pub returns-in-Ok-check : goal.returns-in-Ok-check
returns-in-Ok-check g c =
    spelled_reads c.args.plan.now c.in_ok-fact.fact c.args.line.now c.objects-objects.ensures.sound number_of-own c.in_ok-fact.ensures.fits c.in-Ok-check.ensures c.in_ok-fact.ensures.spelled c.in-Ok.ensures.cases.1
