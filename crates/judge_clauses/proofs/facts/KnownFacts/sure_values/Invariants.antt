use Rattle.std.specs.Prelude.{◌≡◌, length}
use Rattle.judge_clauses.specs.Values.{atom_of, AreValues}
use Rattle.judge_clauses.proofs.facts.KnownFacts.sure_values.Given as goal

abbrev pub invariant-loop-row : goal.invariant-loop-row
invariant-loop-row g l = (length l.values.items ≡ l.row-index) × (AreValues l.self l.clause (atom_of l.question) l.values.items)
