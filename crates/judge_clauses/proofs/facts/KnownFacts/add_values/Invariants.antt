use Rattle.std.specs.Prelude.{◌≡◌, length}
use Rattle.judge_clauses.specs.Values.{atom_of, AreValues}
use Rattle.judge_clauses.proofs.facts.KnownFacts.add_values.Given as goal

abbrev pub invariant-loop-literal : goal.invariant-loop-literal
invariant-loop-literal g l = (length l.values ≡ length l.initial.values) × (AreValues l.self l.clause (atom_of l.question) l.values)
