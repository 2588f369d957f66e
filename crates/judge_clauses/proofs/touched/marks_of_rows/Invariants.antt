use Rattle.std.specs.Prelude.{◌≡◌, length}
use Rattle.judge_clauses.specs.Touching.{AreMarked}
use Rattle.judge_clauses.proofs.touched.marks_of_rows.Given as goal

abbrev pub invariant-loop-row : goal.invariant-loop-row
invariant-loop-row g l = (length l.touched.items ≡ l.row-index) × (AreMarked l.rows l.touched.items)
