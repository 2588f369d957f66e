use Rattle.std.proofs.Common.{rules}
use Rattle.cli_lines.specs.Line.{Line}
use Rattle.cli_lines.specs.Outcomes.{DeviceSeen}
use Rattle.cli_lines.proofs.Ends.{whole-outcome}
use Rattle.cli_lines.proofs.run.run_lines.Goals as goal

pub returns-in-Ok-write_all : goal.returns-in-Ok-write_all
returns-in-Ok-write_all g c =
    let before : DeviceSeen = record { source_failures = g.R.Source.failures c.args.source.now; sink_failures = g.W.Sink.failures c.args.sink.now; held = g.W.Sink.held c.args.sink.now } in
    let after : DeviceSeen = record { source_failures = g.R.Source.failures c.read_all.new.source; sink_failures = g.W.Sink.failures c.write_all.new.sink; held = g.W.Sink.held c.write_all.new.sink } in
    let (said, (says, is, ends)) = c.in-Ok-answer_text.ensures in
    whole-outcome (Line c.args.job.now (g.R.Source.left c.args.source.now)) before after c.in-Ok-answer_text.end (record {
      said = said;
      may = search rules;
      ends = ends;
      written = search rules;
      read = search rules;
      wrote = search rules;
    })
