use Rattle.base_bits.proofs.Marking.{marks-none}
use Rattle.base_bits.proofs.marks.Marks.none.Goals as goal

pub returns : goal.returns
returns g c = marks-none c.in_ok-words.words.items _ c.args.count c.in_ok-words.ensures
