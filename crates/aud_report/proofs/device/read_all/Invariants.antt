use Rattle.std.proofs.Common.{◌≡◌, ◌++◌, length}
use Rattle.aud_report.proofs.device.read_all.Given as goal

abbrev pub invariant-loop-count : goal.invariant-loop-count
invariant-loop-count g l = record {
  so_far : g.R.Source.left l.fn.source ≡ l.bytes.items ++ g.R.Source.left l.source;
  kept : g.R.Source.failures l.source ≡ g.R.Source.failures l.fn.source;
  ready : g.R.Source.ready l.source;
}

abbrev pub decreases-loop-count : goal.decreases-loop-count
decreases-loop-count g l = length (g.R.Source.left l.source)
