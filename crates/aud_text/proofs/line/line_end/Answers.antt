use Rattle.std.proofs.Common.{Some, None, ◌∙◌, sym, arith}
use Rattle.aud_text.proofs.FirstLine.{len_of_place, line_len_le}
use Rattle.aud_text.proofs.line.line_end.Goals as goal

pub returns-in-Some-clause-value : goal.returns-in-Some-clause-value
returns-in-Some-clause-value c = len_of_place c.args.text.now (Some c.in-Some.end) (sym c.in-Some.is ∙ c.feed_at.ensures)

pub returns-in-Some-clause-within : goal.returns-in-Some-clause-within
returns-in-Some-clause-within c =
    let e = len_of_place c.args.text.now (Some c.in-Some.end) (sym c.in-Some.is ∙ c.feed_at.ensures) in omega (arith, e, line_len_le c.args.text.now)

pub returns-in-None-clause-value : goal.returns-in-None-clause-value
returns-in-None-clause-value c = len_of_place c.args.text.now None (sym c.in-None.is ∙ c.feed_at.ensures)
