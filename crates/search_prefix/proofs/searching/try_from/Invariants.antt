use Rattle.std.specs.Prelude.{◌≡◌, ◌-◌, ◌≤◌, length}
use Rattle.search_prefix.proofs.Steps.{AreBad}
use Rattle.search_prefix.proofs.searching.try_from.Given as goal

abbrev pub invariant-loop-next : goal.invariant-loop-next
invariant-loop-next g l = record {
  same : l.cursor ≡ l.fn.cursor;
  past : l.fn.from ≤ l.next;
  bad : AreBad l.fn.cursor l.choices l.fn.from l.next;
}

abbrev pub decreases-loop-next : goal.decreases-loop-next
decreases-loop-next g l = length l.choices - l.next
