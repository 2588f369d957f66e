use Rattle.judge_clauses.specs.Clauses.{Unless, IsUpTo}
use Rattle.judge_clauses.proofs.facts.KnownFacts.is_circle.Given as goal

abbrev pub invariant-loop-i : goal.invariant-loop-i
invariant-loop-i g l = Unless l.self l.clause (λ p. IsUpTo p l.first l.last)
