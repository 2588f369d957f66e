use Rattle.std.specs.Prelude.{◌≡◌, map, take}
use Rattle.aud_order.specs.Shapes.{history_of}
use Rattle.search_memo.specs.Choices.{key_of, choices_from, AreMarkedSilent}
use Rattle.search_memo.proofs.choice.gather.Given as goal

abbrev pub invariant-loop-place : goal.invariant-loop-place
invariant-loop-place g l = record {
  all : map key_of l.choices.items ≡ choices_from 0 (take l.place l.rows);
  marked : AreMarkedSilent (history_of l.shape) l.choices.items;
}
