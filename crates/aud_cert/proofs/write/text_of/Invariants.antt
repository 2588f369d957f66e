use Rattle.std.proofs.Common.{◌≡◌, ◌++◌, take, length, flat_map}
use Rattle.aud_cert.specs.Written.{line_text, header_text, ended}
use Rattle.aud_cert.proofs.write.text_of.Given as goal

abbrev pub invariant-loop-line : goal.invariant-loop-line
invariant-loop-line g l = l.text.items ≡ ended (header_text (length l.cert.lines.items)) ++ flat_map (λ x. ended (line_text x)) (take l.line-index l.cert.lines.items)
