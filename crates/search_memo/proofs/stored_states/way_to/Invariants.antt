use Rattle.aud_history.specs.Histories.{History}
use Rattle.search_memo.proofs.Keeping.{IsWayFrom}
use Rattle.search_memo.proofs.stored_states.way_to.Given as goal

abbrev pub invariant-loop-number : goal.invariant-loop-number
invariant-loop-number g l = (h : History) → IsWayFrom h l.kept l.at l.way.items l.number

abbrev pub decreases-loop-number : goal.decreases-loop-number
decreases-loop-number g l = l.at
