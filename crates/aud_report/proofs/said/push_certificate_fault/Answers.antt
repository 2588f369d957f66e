use Rattle.std.proofs.Common.{rules, append_assoc}
use Rattle.aud_report.proofs.said.push_certificate_fault.Goals as goal

pub returns : goal.returns
returns g c = search (rules, append_assoc)
