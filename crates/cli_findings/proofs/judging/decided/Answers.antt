use Rattle.cli_findings.proofs.Saying.{decided_result}
use Rattle.cli_findings.proofs.judging.decided.Goals as goal

pub returns : goal.returns
returns c = decided_result c.args.budget c.args.facts.now.plan c.args.facts.now.facts c.judge_facts.result c.judge_facts.ensures
