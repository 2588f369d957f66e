use Rattle.std.proofs.Common.{subst}
use Rattle.aud_history.specs.WellFormed.{IsWellFormed}
use Rattle.judge_clauses.specs.Clauses.{KnownFactsOf}
use Rattle.judge_clauses.proofs.facts.KnownFacts.history.Goals as goal

pub returns-clause-sound : goal.returns-clause-sound
returns-clause-sound g c = subst (λ (f : KnownFactsOf). IsWellFormed f.history) c.self.view_is c.self.invariant.1.0
