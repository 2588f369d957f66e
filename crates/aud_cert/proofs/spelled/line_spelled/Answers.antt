use Rattle.std.proofs.Common.{◌≤◌, length, arith}
use Rattle.aud_cert.proofs.LineSpelled.{line-spelled}
use Rattle.aud_cert.proofs.spelled.line_spelled.Goals as goal
use Rattle.aud_cert.specs.Limits.{longest_cert_line}

pub returns : goal.returns
returns g c =
    let fits : length c.args.line.now ≤ longest_cert_line = grind (arith, c.if-line-gt-CERT_LINE_MAX.false) in
    line-spelled c.args.line.now c.line_at.result fits c.line_at.ensures.spelled c.line_at.ensures.short
