use Rattle.std.proofs.Common.{◌≡◌, ◌<◌, ◌-◌, ℕ, List, take, drop, length, arith}
use Rattle.std.proofs.lemmas.Grind.{common_steps}
use Rattle.aud_text.specs.Lines.{line_len}
use Rattle.aud_text.proofs.FirstLine.{first_with_feed, last_line, splits_with_feed}
use Rattle.aud_text.proofs.line.first_line.Goals as goal

all_left : (k : ℕ) (s : List ℕ) → take (length s - k) (drop k s) ≡ drop k s
all_left k s = grind (arith, common_steps)

pub returns-then-end-text-clause-some : goal.returns-then-end-text-clause-some
returns-then-end-text-clause-some c = last_line c.args.text.now (omega (arith, c.line_end-end.ensures.value)) (grind (arith, common_steps))

pub returns-clause-some : goal.returns-clause-some
returns-clause-some c =
    let is = c.line_end-end.ensures.value in
    let short : line_len c.args.text.now < length c.args.text.now = omega (arith, c.line_end-end.ensures) in
    rw (all_left, is) (first_with_feed c.args.text.now short)

pub returns-clause-parts : goal.returns-clause-parts
returns-clause-parts c =
    let is = c.line_end-end.ensures.value in
    let short : line_len c.args.text.now < length c.args.text.now = omega (arith, c.line_end-end.ensures) in
    rw (all_left, is) (splits_with_feed c.args.text.now short)
