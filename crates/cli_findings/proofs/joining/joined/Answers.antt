use Rattle.cli_findings.proofs.Ending.{knows_one, knows_other}
use Rattle.cli_findings.proofs.joining.joined.Goals as goal

pub returns-in-Ok-clause-one : goal.returns-in-Ok-clause-one
returns-in-Ok-clause-one c = λ s budget t. knows_one c.known_is_kept.ensures s budget t c.knowledge_is_norm.ensures c.args.one c.args.other.now c.join.new.self c.facts-one.ensures.is_true c.facts-other.ensures.is_true c.in-Ok.ensures.taken

pub returns-in-Ok-clause-other : goal.returns-in-Ok-clause-other
returns-in-Ok-clause-other c = λ s budget t. knows_other c.known_is_kept.ensures s budget t c.knowledge_is_norm.ensures c.args.one c.args.other.now c.join.new.self c.facts-one.ensures.is_true c.facts-other.ensures.is_true c.in-Ok.ensures.taken
