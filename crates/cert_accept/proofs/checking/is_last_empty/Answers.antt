use Rattle.std.proofs.Common.{◌∙◌, ◌<◌, sym, ap, length, nat_eq, List}
use Rattle.aud_witness.specs.declared.decision.Decision.{Decision}
use borrow.Author.Tests.{ltb-true}
use Rattle.cert_accept.specs.Acceptance.{prefix_in}
use Rattle.cert_accept.proofs.Ends.{ends-by, empty-reported}
use Rattle.cert_accept.proofs.checking.is_last_empty.Goals as goal

pub returns-in-Some : goal.returns-in-Some
returns-in-Some g c =
    let lines = c.args.lines.now in
    let line = c.in-Some.line.now in
    let item = c.in-Some.ensures.item in
    let some : 0 < length lines = ltb-true 0 (length lines) (sym item.0) in
    let empty = empty-reported (prefix_in line) c.is_empty.result (c.is_empty.ensures ∙ ap (λ (l : List Decision). nat_eq (length l) 0) (c.decisions.ensures ∙ c.prefix.ensures)) in
    let last = ends-by lines line some item.1 in
    ((λ e. last.1 (empty.0 e)), λ ends. empty.1 (last.0 ends))
