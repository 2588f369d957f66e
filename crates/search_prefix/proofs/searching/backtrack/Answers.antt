use Rattle.std.proofs.Common.{subst}
use Rattle.aud_order.specs.Cursors.{CursorOf}
use Rattle.search_prefix.specs.Readiness.{IsReady}
use Rattle.search_prefix.proofs.searching.backtrack.Goals as goal

pub backtrack-requires : goal.backtrack-requires
backtrack-requires g c = subst (λ (v : CursorOf). IsReady c.args.ready.now v) (rw c.in-Some.is at c.take_back.ensures.last) c.requires
