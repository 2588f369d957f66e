use Rattle.std.specs.Prelude.{length}
use Rattle.std.proofs.Common.{sym, ◌∙◌, ap}
use Rattle.base_bits.proofs.Marking.{length-marks_from}
use Rattle.base_bits.proofs.marks.Marks.len.Goals as goal

pub returns : goal.returns
returns g c = sym (length-marks_from c.self.inside.words.items 0 c.self.inside.count) ∙ ap length c.self.view_is
