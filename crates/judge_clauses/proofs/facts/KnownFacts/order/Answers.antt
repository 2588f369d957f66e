use Rattle.judge_clauses.proofs.Knowing.{always-itself, always-behind}
use Rattle.judge_clauses.proofs.facts.KnownFacts.order.Goals as goal

pub returns-then-first-second : goal.returns-then-first-second
returns-then-first-second g c = always-itself c.args.self.now c.args.first c.args.second c.if-first-second.true

pub returns-then-is_before-2 : goal.returns-then-is_before-2
returns-then-is_before-2 g c = always-behind c.args.self.now c.args.first c.args.second (c.is_before-2.ensures c.if-is_before-2.true)
