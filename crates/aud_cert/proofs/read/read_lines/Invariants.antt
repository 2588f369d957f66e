use Rattle.std.proofs.Common.{◌≡◌, ◌+◌, ◌-◌, ◌≤◌, length, map}
use Rattle.cert_accept.specs.Acceptance.{elsewhere}
use Rattle.aud_cert.specs.CertText.{lines_left}
use Rattle.aud_cert.proofs.Reading.{onto}
use Rattle.aud_cert.proofs.read.read_lines.Given as goal

abbrev pub invariant-loop-i : goal.invariant-loop-i
invariant-loop-i g l = record {
  same : lines_left l.text l.left l.number l.count ≡ onto (map elsewhere l.lines.items) (lines_left l.text l.rest l.line (l.count - l.i));
  within : length l.rest ≤ length l.text;
  room : l.line + length l.rest ≤ length l.text + 1;
}
