use Rattle.std.proofs.Common.{length}
use Rattle.search_memo.proofs.stored_states.+leads_to.Given as goal

abbrev pub decreases-leads_to : goal.decreases-leads_to
decreases-leads_to g l = length l.way.now
