use Rattle.search_visited.proofs.Visiting.{with-only}
use Rattle.search_visited.proofs.visited_set.with_further.Goals as goal

pub returns-then-place-eq0 : goal.returns-then-place-eq0
returns-then-place-eq0 c = with-only c.args.word c.with_bit.result c.args.place c.if-place-eq0.true c.with_bit.ensures
