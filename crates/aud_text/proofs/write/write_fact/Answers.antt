use Rattle.aud_event.proofs.Names.{number_of-own}
use Rattle.aud_text.proofs.Back.{written_reads}
use Rattle.aud_text.proofs.write.write_fact.Goals as goal

pub returns-clause-reads_back : goal.returns-clause-reads_back
returns-clause-reads_back g c =
    written_reads c.args.plan.now c.args.fact.now _ c.in_ok-line.line.items c.objects-objects.ensures.sound number_of-own c.in_ok-value.ensures.fits c.requires
    c.in_ok-value.ensures.value c.in_ok-line.ensures.utf8 c.in_ok-line.ensures.text c.in_ok-line.ensures.reads_back
