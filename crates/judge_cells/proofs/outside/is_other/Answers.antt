use Rattle.std.specs.Prelude.{◌≡◌, false, None, Some}
use Rattle.std.proofs.Common.{sym, ◌∙◌, ap}
use Rattle.base_values.proofs.Bools.{not_true}
use Rattle.aud_object.specs.Blocks.{BlockOf}
use Rattle.aud_history.specs.Table.{RowOf}
use Rattle.search_model.specs.Cells.{meets, needs, leaves, moves, leaves_of, changes}
use Rattle.judge_cells.proofs.Ruling.{out-still, out-other}
use Rattle.judge_cells.proofs.outside.is_other.Goals as goal

pub returns-in-Some-change : goal.returns-in-Some-change
returns-in-Some-change g c = λ so.
    let f = c.args.facts.now in
    let read = c.args.read in
    let left : leaves_of f.history read.cell read.object c.args.tx ≡ Some c.in-Some-change.left =
    ap (λ (r : RowOf). leaves read.cell read.object None r.block.executions) (sym c.in-Some.ensures.0) ∙ ap (λ (b : BlockOf). leaves read.cell read.object None b.executions) (sym c.block.ensures)
    ∙ ap (leaves read.cell read.object None) (sym c.executions.ensures) ∙ c.in-Some-change.ensures.left in
    let unmet : meets c.args.need c.in-Some-change.left ≡ false = sym c.meets.ensures ∙ not_true c.meets.result so in
    out-other f read c.history-history.ensures.sound c.history-history.ensures.within c.args.need c.requires c.args.tx c.in-Some-change.left left unmet

pub returns-in-None : goal.returns-in-None
returns-in-None g c = λ so.
    let f = c.args.facts.now in
    let read = c.args.read in
    let still : changes f.history read.cell read.object c.args.tx ≡ false =
    ap (λ (r : RowOf). moves (needs read.cell read.object r.block.executions) (leaves read.cell read.object None r.block.executions)) (sym c.in-Some.ensures.0)
    ∙ ap (λ (b : BlockOf). moves (needs read.cell read.object b.executions) (leaves read.cell read.object None b.executions)) (sym c.block.ensures)
    ∙ ap (λ es. moves (needs read.cell read.object es) (leaves read.cell read.object None es)) (sym c.executions.ensures) ∙ c.in-None.ensures.none in
    out-still f read c.requires.there c.args.tx still
