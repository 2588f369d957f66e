use Rattle.std.specs.Prelude.{◌≡◌, false, IfSome}
use Rattle.std.proofs.Common.{sym, ◌∙◌, subst}
use Rattle.search_model.specs.Cells.{meets}
use Rattle.judge_cells.specs.Sources.{IsHiding}
use Rattle.judge_cells.proofs.Ruling.{opening-other, opening-hidden}
use Rattle.judge_cells.proofs.sources.is_opening_out.Goals as goal

pub returns-then-not-meets : goal.returns-then-not-meets
returns-then-not-meets g c = λ so p shown broken.
    let unmet : meets c.args.need c.in-Some.content ≡ false = sym c.meets.ensures ∙ c.if-not-meets.true in
    opening-other c.args.facts.now c.args.read c.history-history.ensures.sound c.history-history.ensures.within c.args.need c.requires.read c.in-Some.content c.in-Some.ensures unmet p shown

pub returns-in-Some-latest : goal.returns-in-Some-latest
returns-in-Some-latest g c = λ so p shown broken.
    let f = c.args.facts.now in
    let hiding : IsHiding f c.args.read c.in-Some-latest.field-0 = subst (λ o. IfSome o (IsHiding f c.args.read)) c.in-Some-latest.is c.requires.latest in
    opening-hidden f c.args.read c.in-Some-latest.field-0 hiding p shown
