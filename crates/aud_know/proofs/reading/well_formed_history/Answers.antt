use Rattle.std.proofs.Common.{◌≡◌, subst}
use Rattle.std.specs.Prelude.{MatchResult}
use Rattle.aud_facts.specs.Sets.{IsSealedWith, IsStatusOfUnsealed}
use Rattle.aud_know.proofs.Judging.{read}
use Rattle.aud_know.proofs.reading.well_formed_history.Goals as goal

pub returns-in-Ok : goal.returns-in-Ok
returns-in-Ok g c =
    let facts = c.args.facts.now in
    let of_facts : (c.in-Ok.sealed.value.facts ≡ facts) × IsSealedWith facts c.in-Ok.sealed.value.history =
    subst (λ r. MatchResult r (λ s. (s.value.facts ≡ facts) × IsSealedWith facts s.value.history) (IsStatusOfUnsealed facts)) c.in-Ok.is c.in_ok-sealed.ensures in
    read facts c.in-Ok.sealed.value (λ s. s.value) c.without_fault.result of_facts.0 of_facts.1 c.without_fault.ensures
