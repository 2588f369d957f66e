use Rattle.std.proofs.Common.{◌≡◌, ℕ, ◌+◌, ◌≤◌, length}
use Rattle.aud_text.specs.Lines.{filled_left}
use Rattle.aud_text.proofs.line.next_filled.Given as goal

abbrev pub invariant-loop-first : goal.invariant-loop-first
invariant-loop-first l = record {
  same : (all : ℕ) → length l.fn.text ≤ all → filled_left all l.number l.fn.text ≡ filled_left all l.at l.rest;
  room : l.at + length l.rest ≤ l.number + length l.fn.text;
  within : length l.rest ≤ length l.fn.text;
}

abbrev pub decreases-loop-first : goal.decreases-loop-first
decreases-loop-first l = length l.rest
