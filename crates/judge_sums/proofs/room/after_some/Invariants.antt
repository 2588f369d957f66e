use Rattle.std.proofs.Common.{pos, take}
use Rattle.search_model.specs.declared.quantity.Quantity.TheVariants.{Count}
use Rattle.search_model.specs.Quantities.{reaches}
use Rattle.judge_sums.specs.Room.{IsWiderBy}
use Rattle.judge_sums.proofs.room.after_some.Given as goal

abbrev pub invariant-loop-execution : goal.invariant-loop-execution
invariant-loop-execution l = IsWiderBy l.wide l.fn.room (pos (reaches (Count l.counter) (take l.execution-index l.executions)))
