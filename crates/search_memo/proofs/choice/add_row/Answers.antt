use Rattle.std.specs.Prelude.{map}
use Rattle.std.proofs.Common.{◌∙◌, ap}
use Rattle.aud_order.specs.Shapes.{history_of}
use Rattle.aud_order.specs.Silent.{silent_fate}
use Rattle.search_memo.specs.Choices.{key_of}
use Rattle.search_memo.proofs.Choosing.{choices-both, marked-more}
use Rattle.search_memo.proofs.choice.add_row.Goals as goal

pub returns-clause-added : goal.returns-clause-added
returns-clause-added g c =
    choices-both c.args.place c.args.row.now (map key_of c.args.choices.now.items) (map key_of c.add_choice.new.choices.items) (map key_of c.add_choice-2.new.choices.items) c.in_ok-add_choice.ensures.added c.in_ok-add_choice-2.ensures.added

pub returns-clause-marked : goal.returns-clause-marked
returns-clause-marked g c = λ marked.
    marked-more (history_of c.args.shape.now) c.args.choices.now.items c.add_choice.new.choices.items c.add_choice-2.new.choices.items c.args.row.now.tx c.silent-silent.result
    marked c.in_ok-add_choice.ensures.marked c.in_ok-add_choice-2.ensures.marked (c.silent-silent.ensures ∙ ap (silent_fate (history_of c.args.shape.now)) c.tx.ensures)
