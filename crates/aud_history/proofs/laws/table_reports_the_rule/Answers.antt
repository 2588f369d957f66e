use Rattle.aud_history.proofs.FirstFault.{reported_rule}
use Rattle.aud_history.proofs.laws.table_reports_the_rule.Goals as goal

pub returns : goal.returns
returns c = reported_rule
