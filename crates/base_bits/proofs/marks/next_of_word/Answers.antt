use Rattle.std.specs.Prelude.{◌<◌, ◌^◌, ◌/◌}
use Rattle.std.proofs.Common.{arith, rules}
use Rattle.base_bits.proofs.Marking.{next-none, next-some}
use Rattle.base_bits.proofs.marks.next_of_word.Goals as goal

pub returns-then-rest-eq0 : goal.returns-then-rest-eq0
returns-then-rest-eq0 c = next-none c.args.word c.args.from c.if-rest-eq0.true

pub returns-else-rest-eq0 : goal.returns-else-rest-eq0
returns-else-rest-eq0 c =
    let small : c.args.word < 2 ^ 64 = search rules in
    let some : 0 < c.args.word / 2 ^ c.args.from = omega arith in
    next-some c.args.word c.args.from small some
