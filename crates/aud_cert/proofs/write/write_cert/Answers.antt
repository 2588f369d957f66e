use Rattle.std.proofs.Common.{◌≡◌, Ok, map, sym, subst}
use Rattle.cert_accept.specs.Acceptance.{elsewhere}
use Rattle.aud_cert.specs.CertText.{cert_read}
use Rattle.aud_cert.proofs.LineSpelled.{cert-back}
use Rattle.aud_cert.proofs.write.write_cert.Goals as goal

pub returns-clause-reads_back : goal.returns-clause-reads_back
returns-clause-reads_back g c within few =
    let lines = c.args.cert.now.lines.items in
    subst (λ t. cert_read t ≡ Ok (map elsewhere lines)) (sym c.in_ok-text.ensures) (cert-back lines within few)
