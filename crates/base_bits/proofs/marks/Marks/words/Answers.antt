use Rattle.std.specs.Prelude.{length}
use Rattle.std.proofs.Common.{sym, ◌∙◌, ap}
use Rattle.base_bits.specs.Marked.{marks_of}
use Rattle.base_bits.proofs.Marking.{length-marks_from}
use Rattle.base_bits.proofs.marks.Marks.words.Goals as goal

pub returns : goal.returns
returns g c =
    let i = c.self.inside in
    sym c.self.view_is ∙ ap (λ l. marks_of l i.count) (sym c.deref.ensures.value) ∙ ap (marks_of c.deref.result.now) (sym (length-marks_from i.words.items 0 i.count) ∙ ap length c.self.view_is)
