use Rattle.std.specs.Prelude.{IfOk, Some, List}
use Rattle.std.proofs.Common.{subst}
use Rattle.aud_witness.specs.declared.decision.Decision.{Decision}
use Rattle.aud_order.specs.Shapes.{objects_of, history_of}
use Rattle.search_prefix.specs.Searches.{Reports}
use Rattle.search_prefix.proofs.searching.explore.Goals as goal

pub returns : goal.returns
returns g c = subst (λ (p : List Decision). IfOk c.search.result (Reports (objects_of c.args.shape.now) (history_of c.args.shape.now) p (Some c.args.budget))) c.decisions.ensures c.search.ensures.reported
