use Rattle.std.specs.Prelude.{◌≡◌}
use Rattle.search_prefix.specs.Readiness.{IsReady}
use Rattle.search_prefix.proofs.ready.Ready.backtrack.Given as goal

abbrev pub invariant-loop-self : goal.invariant-loop-self
invariant-loop-self g l = record {
  choices : l.self.choices ≡ l.fn.self.choices;
  ready : IsReady l.self l.fn.cursor;
}

abbrev pub decreases-loop-self : goal.decreases-loop-self
decreases-loop-self g l = l.self.begun
