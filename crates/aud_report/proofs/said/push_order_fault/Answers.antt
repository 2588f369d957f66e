use Rattle.std.proofs.Common.{◌++◌, ℕ, List, ap, ◌∙◌, codes, decimal}
use Rattle.aud_report.proofs.said.push_order_fault.Goals as goal

-- the words after a text, with two numbers in them
abbrev two : List ℕ → ℕ → ℕ → List ℕ
two text n t = text ++ (codes "order refused " ++ decimal n ++ codes " tx " ++ decimal t)

pub returns : goal.returns
returns g c =
    let text = c.args.text.now.items in
    c.in_ok-push_two.ensures ∙ (ap (λ n. two text n c.transaction-tx.result) c.number-number.ensures ∙ ap (two text _) c.transaction-tx.ensures)
