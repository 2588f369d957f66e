use Rattle.std.specs.Prelude.{[]}
use Rattle.aud_order.specs.Shapes.{objects_of, history_of}
use Rattle.aud_witness.proofs.Beginnings.{Refuted-append}
use Rattle.aud_search.proofs.searches.is_refuted_below.Goals as goal

pub returns : goal.returns
returns c = λ yes. Refuted-append (objects_of c.args.shape.now) (history_of c.args.shape.now) [] c.args.prefix.now (c.requires yes)
