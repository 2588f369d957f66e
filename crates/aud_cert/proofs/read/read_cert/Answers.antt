use Rattle.aud_cert.specs.CertText.{cert_read}
use Rattle.aud_cert.proofs.Reading.{stays-own}
use Rattle.aud_cert.proofs.read.read_cert.Goals as goal

pub returns : goal.returns
returns c = stays-own _ c.read_cert_into.result (cert_read c.args.text.now) c.read_cert_into.ensures
