use Rattle.std.specs.Prelude.{◌≡◌, true, None}
use Rattle.std.proofs.Common.{sym, ◌∙◌, ap}
use Rattle.aud_object.specs.Blocks.{BlockOf}
use Rattle.aud_history.specs.Table.{RowOf}
use Rattle.judge_cells.specs.Clashes.{clashes, clashes_of}
use Rattle.judge_cells.proofs.Clashing.{valid-clash}
use Rattle.judge_cells.proofs.clash.is_clash.Goals as goal

pub returns : goal.returns
returns g c = λ so.
    let f = c.args.facts.now in
    let clash : clashes_of f.history c.args.cell c.args.object c.args.tx ≡ true =
    ap (λ (r : RowOf). clashes c.args.cell c.args.object None r.block.executions) (sym c.in-Some.ensures.0) ∙ ap (λ (b : BlockOf). clashes c.args.cell c.args.object None b.executions) (sym c.block.ensures)
    ∙ ap (clashes c.args.cell c.args.object None) (sym c.executions.ensures) ∙ sym c.clashes.ensures ∙ so in
    valid-clash f c.args.clause.now c.history-history.ensures.sound c.history-history.ensures.within c.args.cell c.args.object c.args.tx c.in-Some-opening.field-0 c.in-Some-opening.ensures c.in-Some.ensures.1 clash
