use Rattle.std.specs.Prelude.{◌≡◌, ◌+◌, Ok, IfOk}
use Rattle.std.proofs.Common.{sym, subst, inl, inr, arith}
use Rattle.aud_cert.specs.CertText.{cert_read}
use Rattle.aud_json.specs.declared.fault.TextFault.TheVariants as fault
use Rattle.aud_report.specs.declared.said.Said.TheVariants as said
use Rattle.cli_lines.specs.Line.{CertifiedSays}
use Rattle.cli_lines.proofs.Bounds.{fault-line}
use Rattle.cli_lines.proofs.HistoryLemmas.{if_ok}
use Rattle.cli_lines.proofs.run.verify_by.Goals as goal

pub returns-in-Ok : goal.returns-in-Ok
returns-in-Ok c =
    subst (λ r. IfOk c.judge_input.result (CertifiedSays c.args.lines (Ok c.args.input) r)) (sym c.in-Ok.ensures) c.judge_input.ensures

pub refuse_line-requires : goal.refuse_line-requires
refuse_line-requires c =
    elim c.in-Err.ensures [
      | inl memory ↦ inl memory
      | inr refused ↦ inr (omega (arith, c.requires, fault-line c.args.certificate.now c.in-Err.refused refused))
    ]

pub returns-in-Err : goal.returns-in-Err
returns-in-Err c =
    let lines = c.args.lines in
    let refused = c.in-Err.refused in
    if_ok (λ s. (s ≡ said.CertificateLineRefused (lines + refused.line) refused.fault) × (refused.fault ≡ fault.OutOfMemory → ⊥))
    (CertifiedSays lines (Ok c.args.input) (cert_read c.args.certificate.now)) c.refuse_line.result
    (λ s (here, other). elim c.in-Err.ensures [
      | inl memory ↦ absurd (other memory)
      | inr is ↦ subst (λ r. CertifiedSays lines (Ok c.args.input) r s) (sym is) here
    ]) c.refuse_line.ensures
