use Rattle.aud_cert.proofs.Limits.{accepted-reads-back}
use Rattle.aud_cert.proofs.laws.accepted_reads_back.Goals as goal

pub returns : goal.returns
returns c = accepted-reads-back
