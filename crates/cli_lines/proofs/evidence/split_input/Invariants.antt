use Rattle.std.proofs.Common.{length}
use Rattle.cli_lines.proofs.Splitting.{IsAt}
use Rattle.cli_lines.proofs.evidence.split_input.Given as goal

abbrev pub invariant-loop-first : goal.invariant-loop-first
invariant-loop-first l = IsAt l.evidence l.text l.rest l.lines

abbrev pub decreases-loop-first : goal.decreases-loop-first
decreases-loop-first l = length l.rest
