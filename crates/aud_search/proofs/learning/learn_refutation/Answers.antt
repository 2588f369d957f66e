use Rattle.std.proofs.Common.{sym, subst}
use Rattle.aud_history.specs.WellFormed.{IsWellFormed}
use Rattle.aud_search.proofs.learning.learn_refutation.Goals as goal

pub judge-requires : goal.judge-requires
judge-requires c = subst (λ h. IsWellFormed h.events) (sym c.history-history.ensures.history) c.history-history.ensures.sound
