use Rattle.std.proofs.Common.{take, All}
use Rattle.aud_history.specs.FirstFault.{FitsPlan}
use Rattle.aud_history.proofs.history.all_fit.Given as goal

abbrev pub invariant-loop-entry : goal.invariant-loop-entry
invariant-loop-entry g l = All (FitsPlan l.plan) (take l.entry-index l.events)
