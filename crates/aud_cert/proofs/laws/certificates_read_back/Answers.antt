use Rattle.aud_cert.proofs.Back.{certificates-read-back}
use Rattle.aud_cert.proofs.laws.certificates_read_back.Goals as goal

pub returns : goal.returns
returns c = certificates-read-back
