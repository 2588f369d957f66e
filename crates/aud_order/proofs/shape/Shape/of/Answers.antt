use Rattle.std.proofs.Common.{sym, subst}
use Rattle.aud_history.specs.FirstFault.{HistoryOf}
use Rattle.aud_history.specs.WellFormed.{IsWellFormed}
use Rattle.aud_facts.specs.Sets.{SealedOf}
use Rattle.aud_order.proofs.shape.Shape.of.Goals as goal

pub of-requires : goal.of-requires
of-requires g c =
    subst (λ (h : HistoryOf). IsWellFormed h.events) (sym c.history.ensures.history)
    (subst (λ (s : SealedOf). IsWellFormed s.history) (sym c.deref.ensures) c.requires)
