use Rattle.std.proofs.Common.{sym, ◌∙◌}
use Rattle.cli_lines.proofs.Splitting.{at-more}
use Rattle.cli_lines.proofs.evidence.split_input.Goals as goal

pub loop-first-preserved : goal.loop-first-preserved
loop-first-preserved c =
    let first = c.in-Some.first in
    at-more c.args.evidence c.args.text.now c.loop-first.rest.now c.loop-first.lines c.loop-first.invariant first.line.now first.rest.now c.in-Some.ensures.some c.in-Some.ensures.parts
    (sym c.in_ok-is_begin.ensures ∙ c.if-branch.false) c.in-Some.ensures.shorter
