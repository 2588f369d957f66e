use Rattle.std.specs.Prelude.{map}
use Rattle.std.proofs.Common.{ap}
use Rattle.aud_order.specs.Shapes.{history_of}
use Rattle.search_memo.specs.Choices.{key_of}
use Rattle.search_memo.proofs.Choosing.{choices-step, marked-none}
use Rattle.search_memo.proofs.choice.gather.Goals as goal

pub loop-place-init : goal.loop-place-init
loop-place-init g c = record { all = ap (map key_of) c.new-choices.ensures.items; marked = marked-none (history_of c.args.shape.now) c.new-choices.result.items c.new-choices.ensures.items }

pub loop-place-preserved : goal.loop-place-preserved
loop-place-preserved g c = record {
  all = choices-step c.args.rows.now c.loop-place.place c.index-rows-place.result (map key_of c.loop-place.choices.items) (map key_of c.add_row.new.choices.items)
      c.loop-place-test.true c.index-rows-place.is c.loop-place.invariant.all c.in_ok-add_row.ensures.added;
  marked = c.in_ok-add_row.ensures.marked c.loop-place.invariant.marked;
}
