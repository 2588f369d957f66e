use Rattle.std.proofs.Common.{◌≡◌, ◌+◌, ◌≤◌, length}
use Rattle.aud_text.specs.Lines.{lines_of}
use Rattle.aud_text.proofs.line.count_lines.Given as goal

abbrev pub invariant-loop-first : goal.invariant-loop-first
invariant-loop-first l = record {
  counted : l.count + length (lines_of l.rest) ≡ length (lines_of l.fn.text);
  room : l.count + length l.rest ≤ length l.fn.text;
}

abbrev pub decreases-loop-first : goal.decreases-loop-first
decreases-loop-first l = length l.rest
