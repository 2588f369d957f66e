use Rattle.std.specs.Prelude.{◌≡◌, ◌-◌}
use Rattle.search_prefix.specs.Readiness.{HoldsBack}
use Rattle.search_prefix.proofs.ready.Ready.begin_rows.Given as goal

abbrev pub invariant-loop-self : goal.invariant-loop-self
invariant-loop-self g l = record {
  choices : l.self.choices ≡ l.fn.self.choices;
  shape : l.self.shape ≡ l.fn.self.shape;
  left : HoldsBack l.self l.fn.cursor;
}

abbrev pub decreases-loop-self : goal.decreases-loop-self
decreases-loop-self g l = l.count - l.self.begun
