use Rattle.std.proofs.Common.{◌∙◌, ap}
use Rattle.aud_witness.specs.Agendas.{ends_from}
use Rattle.aud_witness.proofs.AgendaLemmas.{AreEnds-sorted}
use Rattle.aud_witness.proofs.agenda.Agenda.of.Goals as goal

pub invariant_of-result : goal.invariant_of-result
invariant_of-result g c =
    AreEnds-sorted c.in_ok-table.table c.in_ok-ends.ends.items c.sort.new.self.items (c.in_ok-ends.ensures ∙ ap (ends_from 0) c.rows.ensures) c.sort.ensures.permutation c.in_ok-sort.ensures.sorted
