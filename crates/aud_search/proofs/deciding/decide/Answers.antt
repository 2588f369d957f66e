use Rattle.aud_order.specs.Shapes.{objects_of, history_of}
use Rattle.aud_search.proofs.Lettered.{by-letter}
use Rattle.aud_search.proofs.deciding.decide.Goals as goal

pub returns-clause-letter : goal.returns-clause-letter
returns-clause-letter c =
    let objects = objects_of c.args.shape.now in
    let h = history_of c.args.shape.now in
    by-letter objects h c.decide_by_prefixes.result (c.letter_is_opaque.ensures objects h) c.history-well_formed.ensures.sound c.decide_by_prefixes.ensures
