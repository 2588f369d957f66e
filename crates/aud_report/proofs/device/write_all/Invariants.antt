use Rattle.std.proofs.Common.{◌≡◌, ℕ, ◌++◌, List, length}
use Rattle.aud_report.proofs.device.write_all.Given as goal

abbrev pub invariant-loop-rest : goal.invariant-loop-rest
invariant-loop-rest g l = record {
  went : (went : List ℕ) × (l.fn.text ≡ went ++ l.rest) × (g.W.Sink.held l.sink ≡ g.W.Sink.held l.fn.sink ++ went);
  kept : g.W.Sink.failures l.sink ≡ g.W.Sink.failures l.fn.sink;
  ready : g.W.Sink.ready l.sink;
}

abbrev pub decreases-loop-rest : goal.decreases-loop-rest
decreases-loop-rest g l = length l.rest
