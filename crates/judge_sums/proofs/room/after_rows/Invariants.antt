use Rattle.std.proofs.Common.{pos, take}
use Rattle.aud_history.specs.Table.{transactions}
use Rattle.search_model.specs.declared.quantity.Quantity.TheVariants.{Count}
use Rattle.search_model.specs.Quantities.{reach_of}
use Rattle.judge_sums.specs.Room.{IsWiderBy}
use Rattle.judge_sums.specs.Sums.{sum_of}
use Rattle.judge_sums.proofs.room.after_rows.Given as goal

abbrev pub invariant-loop-place : goal.invariant-loop-place
invariant-loop-place g l = IsWiderBy l.wide l.fn.room (sum_of (λ t. pos (reach_of l.facts.history (Count l.counter) t)) (take l.place (transactions l.facts.history)))
