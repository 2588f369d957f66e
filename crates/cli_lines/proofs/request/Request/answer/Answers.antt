use Rattle.std.proofs.Common.{sym, subst}
use Rattle.aud_history.specs.WellFormed.{IsWellFormed}
use Rattle.cli_lines.proofs.request.Request.answer.Goals as goal

pub answer_check-requires : goal.answer_check-requires
answer_check-requires c =
    subst (λ h. IsWellFormed h.events) (sym c.history.ensures.history) (subst (λ s. IsWellFormed s.history) (sym c.deref.ensures) c.requires)
