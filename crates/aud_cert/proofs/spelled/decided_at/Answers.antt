use Rattle.std.proofs.Common.{◌≡◌, ◌++◌, ◌∷◌, [], ◌∙◌, Some, codes, ap, subst, rules}
use Rattle.aud_text.specs.Orders.{order_text}
use Rattle.aud_cert.specs.LineText.{only_of}
use Rattle.aud_cert.specs.Written.{IsShort}
use Rattle.aud_cert.proofs.OrderSpelled.{only-is}
use Rattle.aud_cert.proofs.spelled.decided_at.Goals as goal

pub returns-clause-spelled : goal.returns-clause-spelled
returns-clause-spelled g c =
    let read : only_of c.in_ok-decisions.decisions ≡ Some c.in_ok-decision.decision = search rules in
    let one = only-is c.in_ok-decisions.decisions c.in_ok-decision.decision read in
    let end = c.in_ok-decisions.ensures.spelled ∙ (λ i. order_text (one i) ++ c.in_ok-prefix.ensures.spelled i) in
    let key = c.in_ok-text.ensures ∙ ap (λ t. codes "\",\"d\":\"" ++ t) end in
    let word = c.in_ok-worded.ensures ∙ ap (λ t. c.args.word.now ++ t) key in
    c.in_ok-named.ensures ∙ ap (λ t. codes "{\"by\":\"" ++ t) word

pub returns-clause-short : goal.returns-clause-short
returns-clause-short g c =
    let read : only_of c.in_ok-decisions.decisions ≡ Some c.in_ok-decision.decision = search rules in
    (c.in_ok-prefix.ensures.short, subst IsShort (only-is c.in_ok-decisions.decisions c.in_ok-decision.decision read) c.in_ok-decisions.ensures.short)
