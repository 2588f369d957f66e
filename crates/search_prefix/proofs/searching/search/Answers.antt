use Rattle.std.proofs.Common.{List, ap, subst}
use Rattle.std.proofs.lemmas.Result.{IfOk-weaker}
use Rattle.aud_witness.specs.declared.decision.Decision.{Decision}
use Rattle.aud_witness.proofs.Beginnings.{Refuted-from_bad}
use Rattle.aud_order.specs.Shapes.{objects_of, history_of}
use Rattle.aud_order.specs.Cursors.{CursorOf}
use Rattle.search_prefix.specs.Searches.{Reports}
use Rattle.search_prefix.proofs.searching.search.Goals as goal

pub returns-in_default-clause-reported : goal.returns-in_default-clause-reported
returns-in_default-clause-reported g c =
    Refuted-from_bad (objects_of c.args.shape.now) (history_of c.args.shape.now) c.args.prefix.now (rw c.in_default.is at c.in_ok-cursor.ensures)

pub returns-clause-reported : goal.returns-clause-reported
returns-clause-reported g c =
    let found = rw c.in-Some.is at c.in_ok-cursor.ensures in
    let objects = objects_of c.args.shape.now in
    let h = history_of c.args.shape.now in
    IfOk-weaker c.search_under.result (Reports objects h c.in-Some.cursor.path c.args.budget) (Reports objects h c.args.prefix.now c.args.budget)
    (λ o reported. subst (λ (p : List Decision). Reports objects h p c.args.budget o) (ap (λ (v : CursorOf). v.path) found.0) reported) c.search_under.ensures.reported

pub search_under-requires-clause-shape : goal.search_under-requires-clause-shape
search_under-requires-clause-shape g c =
    let found = rw c.in-Some.is at c.in_ok-cursor.ensures in ap (λ (v : CursorOf). v.shape) found.0
