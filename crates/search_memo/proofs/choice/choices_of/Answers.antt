use Rattle.std.proofs.Common.{◌∙◌, ap}
use Rattle.aud_order.specs.Shapes.{history_of}
use Rattle.search_memo.specs.Choices.{choices_from}
use Rattle.search_memo.proofs.Choosing.{choices-sorted}
use Rattle.search_memo.proofs.choice.choices_of.Goals as goal

pub returns : goal.returns
returns g c =
    choices-sorted (history_of c.args.shape.now) c.in_ok-choices.choices.items c.sort.new.self.items c.history-sound.ensures.sound c.in_ok-choices.ensures.marked
    (c.in_ok-choices.ensures.all ∙ ap (choices_from 0) (c.rows.ensures ∙ c.table.ensures)) c.sort.ensures.permutation
