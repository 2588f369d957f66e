use Rattle.judge_cells.proofs.Ruling.{out-unkept, out-itself, out-behind}
use Rattle.judge_cells.proofs.outside.is_outside.Goals as goal

pub returns-then-cannot : goal.returns-then-cannot
returns-then-cannot g c = λ so.
    let never = c.cannot.ensures c.if-cannot.true in out-unkept c.args.facts.now c.args.read c.requires.read.there c.args.tx never.1

pub returns-then-tx-read : goal.returns-then-tx-read
returns-then-tx-read g c = λ so.
    out-itself c.args.facts.now c.args.read c.requires.read.there c.args.tx c.if-tx-read.true

pub returns-then-is_before : goal.returns-then-is_before
returns-then-is_before g c = λ so.
    out-behind c.args.facts.now c.args.read c.requires.read.there c.args.tx (c.is_before.ensures c.if-is_before.true)
