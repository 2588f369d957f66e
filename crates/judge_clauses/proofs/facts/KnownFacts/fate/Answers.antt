use Rattle.judge_clauses.proofs.Knowing.{always-kept, always-unkept}
use Rattle.judge_clauses.proofs.facts.KnownFacts.fate.Goals as goal

pub returns-then-cannot : goal.returns-then-cannot
returns-then-cannot g c = let never = c.cannot.ensures c.if-cannot.true in always-kept c.args.self.now c.args.tx never.0 never.1

pub returns-then-cannot-2 : goal.returns-then-cannot-2
returns-then-cannot-2 g c = let never = c.cannot-2.ensures c.if-cannot-2.true in always-unkept c.args.self.now c.args.tx never.1
