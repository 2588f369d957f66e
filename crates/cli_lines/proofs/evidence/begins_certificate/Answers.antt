use Rattle.std.proofs.Common.{◌≡◌, Ok, sym, rules}
use Rattle.aud_text.specs.FactText.{fact_read}
use Rattle.cli_lines.proofs.FactLines.{begins_none}
use Rattle.cli_lines.proofs.evidence.begins_certificate.Goals as goal

pub returns-in-Ok : goal.returns-in-Ok
returns-in-Ok c =
    let plan = c.in-Some.plan.now in
    let read : fact_read plan c.args.line.now ≡ Ok c.in-Ok.field-0 = search rules in
    sym (begins_none plan c.in-Ok.field-0 c.args.line.now read)
